-- What a worker may still do falls with each round in which it has something to do.
use Rattle.std.proofs.Common.{◌≡◌, ◌≢◌, ◌⊎◌, ℕ, suc, ◌+◌, ◌-◌, ◌<◌, ◌≤◌, Bool, true, false, List, [], ◌∷◌, ◌++◌, refl, sym, ap, ◌∙◌, subst, inl, inr, ⊎_elim, arith, append-nil, append_assoc, max, nat_lt}
use Rattle.offer_model.specs.declared.node.Mark.{Mark}
use Rattle.tree_search.specs.Goals.{Rules}
use Rattle.tree_search.specs.Turns.{Walk, IsSound}
use Rattle.tree_search.specs.Sizes.{size_of}
use Rattle.tree_search.proofs.SizeLemmas.{times, times_le, most, sound_size}
use Rattle.std.proofs.lemmas.Bool.Decides.{nat_tests}
use Rattle.shared_best.specs.Views.{any_past, AllBelow, is_done}
use Rattle.shared_best.proofs.ClaimLemmas.{or_false}
use Rattle.shared_best.specs.Places.{DeskData, PlaceData}
use Rattle.worker_rounds.specs.declared.crew.Worker.{Worker}
use Rattle.worker_rounds.specs.Rounds.{Follows, IsBusy, IsAtRest, Round}
use Rattle.worker_rounds.specs.Crews.{sizes}

-- One more than the greatest.
abbrev pub next_of : List ℕ → ℕ
next_of [] = 0
next_of (x ∷ xs) = max (suc x) (next_of xs)

-- A number that was put last is below it.
pub next_push : (xs : List ℕ) (n : ℕ) → suc n ≤ next_of (xs ++ n ∷ [])
next_push [] n = omega arith
next_push (x ∷ xs) n = let r = next_push xs n in omega arith

-- It is at most what is above all.
pub next_below : (xs : List ℕ) (n : ℕ) → AllBelow n xs → next_of xs ≤ n
next_below [] n a = omega arith
next_below (x ∷ xs) n a = let r = next_below xs n a.1 in let h = a.0 in omega arith

lt_is : (x n : ℕ) → nat_lt x n ≡ true → x < n
lt_is x n e = grind (arith, nat_tests)

-- It is at most the number of tasks, where no number is past them.
pub next_early : (xs : List ℕ) (n : ℕ) → any_past n xs ≡ false → next_of xs ≤ n
next_early [] n e = omega arith
next_early (x ∷ xs) n e = let t = or_false (nat_lt x n) (any_past n xs) e in let l = lt_is x n t.0 in let r = next_early xs n t.1 in omega arith

-- After one more claim less is left.
pub falls : (tasks n : ℕ) (xs : List ℕ) → AllBelow n xs → any_past tasks xs ≡ false → suc tasks - next_of (xs ++ n ∷ []) < suc tasks - next_of xs
falls tasks n xs a e = let p = next_push xs n in let b = next_below xs n a in let l = next_early xs tasks e in omega arith

-- ---- What a worker may still claim.

abbrev pub left : ℕ → List ℕ → ℕ
left tasks claims = suc tasks - next_of claims

left_follows : (tasks : ℕ) (before claims : List ℕ) → Follows tasks before claims → left tasks (before ++ claims) ≤ left tasks before
left_follows tasks before [] f = let e : left tasks (before ++ []) ≡ left tasks before = ap (left tasks) (append-nil before) in omega arith
left_follows tasks before (c ∷ cs) f =
    let e : left tasks ((before ++ c ∷ []) ++ cs) ≡ left tasks (before ++ c ∷ cs) = ap (left tasks) (append_assoc before (c ∷ []) cs) in
    let r = left_follows tasks (before ++ c ∷ []) cs f.2 in
    let l = falls tasks c before f.0 f.1 in
    omega arith

left_falls : (tasks : ℕ) (before claims : List ℕ) → Follows tasks before claims → claims ≢ [] → suc (left tasks (before ++ claims)) ≤ left tasks before
left_falls tasks before [] f n = absurd (n refl)
left_falls tasks before (c ∷ cs) f n =
    let e : left tasks ((before ++ c ∷ []) ++ cs) ≡ left tasks (before ++ c ∷ cs) = ap (left tasks) (append_assoc before (c ∷ []) cs) in
    let r = left_follows tasks (before ++ c ∷ []) cs f.2 in
    let l = falls tasks c before f.0 f.1 in
    omega arith

busy_or_at_rest : (p : PlaceData) (w : Walk) → IsBusy p w ⊎ IsAtRest p w
busy_or_at_rest p w = by_case w.stack refl (is_done p.view) refl
  where
    by_case : (s : List (List Mark)) → w.stack ≡ s → (b : Bool) → is_done p.view ≡ b → IsBusy p w ⊎ IsAtRest p w
    by_case s e false d = inl (inr d)
    by_case [] e true d = inr (e, d)
    by_case (m ∷ s) e true d = inl (inl (λ f. (let g : m ∷ s ≡ [] = sym e ∙ f in cc)))

-- ---- The measure.

-- What one worker may still do, where a claim is worth more than all that can come of a stack.
abbrev pub weight : ℕ → ℕ → List ℕ → List (List Mark) → ℕ
weight tasks n claims stack = times (left tasks claims) (suc (most n)) + size_of stack

module _ (r : Rules) (desk : DeskData) (n : ℕ) (p q : PlaceData) (v w : Walk) (round : Round r desk p q v w) (sound : IsSound w) (long : w.products ≡ n) where
  weight_claimed : round.claims ≢ [] → weight desk.tasks n q.view.claims w.stack < weight desk.tasks n p.view.claims v.stack
  weight_claimed some =
      let e : left desk.tasks q.view.claims ≡ left desk.tasks (p.view.claims ++ round.claims) = ap (left desk.tasks) round.all in
      let f = left_falls desk.tasks p.view.claims round.claims round.follows some in
      let t = times_le (suc (left desk.tasks q.view.claims)) (left desk.tasks p.view.claims) (suc (most n)) (omega arith) in
      let s : size_of w.stack ≤ most n = subst (λ (k : ℕ). size_of w.stack ≤ most k) long (sound_size w sound) in
      omega arith

  weight_less : size_of w.stack < size_of v.stack → weight desk.tasks n q.view.claims w.stack < weight desk.tasks n p.view.claims v.stack
  weight_less l =
      let e : left desk.tasks q.view.claims ≡ left desk.tasks (p.view.claims ++ round.claims) = ap (left desk.tasks) round.all in
      let f = left_follows desk.tasks p.view.claims round.claims round.follows in
      let t = times_le (left desk.tasks q.view.claims) (left desk.tasks p.view.claims) (suc (most n)) (omega arith) in
      omega arith

  -- A round with something to do leaves less.
  pub weight_busy : IsBusy p v → weight desk.tasks n q.view.claims w.stack < weight desk.tasks n p.view.claims v.stack
  weight_busy b = ⊎_elim weight_claimed weight_less (round.moved b)

  -- No round leaves more.
  pub weight_any : weight desk.tasks n q.view.claims w.stack ≤ weight desk.tasks n p.view.claims v.stack
  weight_any = ⊎_elim
      (λ b. let l = weight_busy b in omega arith)
      (λ d.
      let e = round.rested d in
      let a : weight desk.tasks n q.view.claims w.stack ≡ weight desk.tasks n p.view.claims v.stack = λ i. weight desk.tasks n (e.1 i) (e.0 i) in
      omega arith)
      (busy_or_at_rest p v)

module _ {T : Type 0} where
  abbrev pub weights : ℕ → ℕ → List (Worker T) → ℕ
  weights tasks n [] = 0
  weights tasks n (w ∷ ws) = weight tasks n w.place.view.claims w.walker.stack + weights tasks n ws

  abbrev pub lefts : ℕ → ℕ → List (Worker T) → ℕ
  lefts tasks c [] = 0
  lefts tasks c (w ∷ ws) = times (left tasks w.place.view.claims) c + lefts tasks c ws

  -- Claims and stacks apart.
  pub weights_are : (tasks n : ℕ) (ws : List (Worker T)) → weights tasks n ws ≡ lefts tasks (suc (most n)) ws + sizes ws
  weights_are tasks n [] = refl
  weights_are tasks n (w ∷ ws) = let r = weights_are tasks n ws in omega arith

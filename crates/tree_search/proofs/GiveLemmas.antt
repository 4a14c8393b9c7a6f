-- A walker gives its bottom node away: lists, room, and what contracts see.
use Rattle.std.proofs.Common.{◌≡◌, ◌⊎◌, ◌<◌, ◌≤◌, ℕ, inl, inr, ⊎_elim, List, [], ◌∷◌, ◌++◌, length, drop, sym, ap, ◌∙◌, subst, arith}
use Rattle.std.specs.Prelude.{reverse, take, slice_index_or}
use Rattle.std.specs.Prelude.{Bool}
use Rattle.std.proofs.lemmas.List.{reverse-append}
use Rattle.offer_model.specs.declared.node.Mark.{Mark}
use Rattle.offer_model.specs.Nodes.{Completes}
use Rattle.tree_search.specs.Turns.{Walk, with_stack}
use Rattle.tree_search.specs.Rooms.{AllLong, Rooms, best_of, walk_of}
use Rattle.tree_search.specs.Gives.{IsGiven}
use Rattle.tree_search.specs.Progress.{CompletesSome}
use Rattle.tree_search.proofs.StackLemmas.{start_stack}

-- The item that was removed is the first.
pub first_of : (items new : List (List Mark)) (x : List Mark) → 0 < length items → slice_index_or items 0 x ≡ x → new ≡ take 0 items ++ drop 1 items → items ≡ x ∷ new
first_of [] new x l at is = absurd (omega arith)
first_of (y ∷ ys) new x l at is = ap (λ (m : List Mark). m ∷ ys) at ∙ ap (λ (l : List (List Mark)). x ∷ l) (sym is)

-- The bottom of a stack is the first item.
pub bottom_is : (items new : List (List Mark)) (x : List Mark) → items ≡ x ∷ new → reverse items ≡ reverse new ++ x ∷ []
bottom_is items new x e = ap (λ (l : List (List Mark)). reverse l) e ∙ reverse-append (x ∷ []) new

-- The first node and the rest are of the walker's products.
pub long_tail : (n : ℕ) (items new : List (List Mark)) (x : List Mark) → items ≡ x ∷ new → AllLong n items → (length x ≡ n) × AllLong n new
long_tail n items new x e h = subst (AllLong n) e h

shorter : (xs : List (List Mark)) (x : List Mark) → length xs ≤ length (xs ++ x ∷ [])
shorter [] x = omega arith
shorter (y ∷ ys) x = let r = shorter ys x in omega arith

rooms_without : (n : ℕ) (xs : List (List Mark)) (x : List Mark) → Rooms n (xs ++ x ∷ []) → Rooms n xs
rooms_without n [] x h = tt
rooms_without n (y ∷ ys) x h = let s = shorter ys x in let l = h.0 in (omega arith, rooms_without n ys x h.1)

-- Without its bottom a stack has room.
pub rooms_tail : (n : ℕ) (items new : List (List Mark)) (x : List Mark) → items ≡ x ∷ new → Rooms n (reverse items) → Rooms n (reverse new)
rooms_tail n items new x e h = rooms_without n (reverse new) x (subst (Rooms n) (bottom_is items new x e) h)

-- What contracts see of the two walkers.
pub given_by : (n m : ℕ) (items new theirs put : List (List Mark)) (x : List Mark) (found other_found : Bool) (best other_best : List Bool) (one other : Walk)
    → walk_of items found best n ≡ one → walk_of theirs other_found other_best m ≡ other
    → items ≡ x ∷ new → other.stack ≡ [] → put ≡ theirs ++ x ∷ []
    → IsGiven one other (walk_of new found best n) (walk_of put other_found other_best m)
given_by n m items new theirs put x found other_found best other_best one other view other_view e idle is =
    let empty : reverse theirs ≡ [] = ap (λ (w : Walk). w.stack) other_view ∙ idle in
    record {
      node = x;
      rest = reverse new;
      bottom = sym (ap (λ (w : Walk). w.stack) view) ∙ bottom_is items new x e;
      left = ap (λ (w : Walk). with_stack w (reverse new)) view;
      given = ap (λ (s : List (List Mark)). record { stack = s; best = best_of other_found other_best; products = m }) (start_stack theirs put x empty is)
          ∙ ap (λ (w : Walk). with_stack w (x ∷ [])) other_view;
    }

-- What completes a node of a stack completes one above the bottom, or the bottom one.
pub completes_parts : (y : List Bool) (rest : List (List Mark)) (node : List Mark) → CompletesSome (rest ++ node ∷ []) y → CompletesSome rest y ⊎ Completes node y
completes_parts y [] node (inl c) = inr c
completes_parts y [] node (inr c) = absurd c
completes_parts y (m ∷ rest) node (inl c) = inl (inl c)
completes_parts y (m ∷ rest) node (inr c) = ⊎_elim (λ d. inl (inr d)) inr (completes_parts y rest node c)

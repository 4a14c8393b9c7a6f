-- Facts of each item of a list, of any, and of the pairs of two lists.
use Rattle.std.proofs.Common.{◌≡◌, ◌⊎◌, ℕ, zero, suc, ◌<◌, ◌≤◌, List, [], ◌∷◌, ◌++◌, length, get_or, set, refl, sym, ap, subst, inl, inr, ⊎_elim, arith}
use Rattle.std.specs.Prelude.{⊤}
use Rattle.worker_rounds.specs.Crews.{Each, AnyOf, Pairwise}

module _ {A : Type 0} where
  -- With one item more.
  pub each_push : (P : A → Type 0) (xs : List A) (x : A) → Each P xs → P x → Each P (xs ++ x ∷ [])
  each_push P [] x e p = (p, tt)
  each_push P (y ∷ ys) x e p = (e.0, each_push P ys x e.1 p)

  -- The last item and those before it.
  pub each_last : (P : A → Type 0) (xs : List A) (x : A) → Each P (xs ++ x ∷ []) → Each P xs × P x
  each_last P [] x e = (tt, e.0)
  each_last P (y ∷ ys) x e = let r = each_last P ys x e.1 in ((e.0, r.0), r.1)

  -- What follows of it holds too.
  pub each_map : (P Q : A → Type 0) → ((x : A) → P x → Q x) → (xs : List A) → Each P xs → Each Q xs
  each_map P Q f [] e = tt
  each_map P Q f (x ∷ xs) e = (f x e.0, each_map P Q f xs e.1)

  -- Of a list in two parts.
  pub each_parts : (P : A → Type 0) (xs ys : List A) → Each P (xs ++ ys) → Each P xs × Each P ys
  each_parts P [] ys e = (tt, e)
  each_parts P (x ∷ xs) ys e = let r = each_parts P xs ys e.1 in ((e.0, r.0), r.1)

  -- Of two lists put together.
  pub each_append : (P : A → Type 0) (xs ys : List A) → Each P xs → Each P ys → Each P (xs ++ ys)
  each_append P [] ys e f = f
  each_append P (x ∷ xs) ys e f = (e.0, each_append P xs ys e.1 f)

  -- The item at a position.
  pub each_at : (P : A → Type 0) (xs : List A) (i : ℕ) (d : A) → i < length xs → Each P xs → P (get_or xs i d)
  each_at P [] i d l e = absurd (omega arith)
  each_at P (x ∷ xs) zero d l e = e.0
  each_at P (x ∷ xs) (suc i) d l e = each_at P xs i d (omega arith) e.1

  -- What holds at each place holds of each item.
  pub each_of : (P : A → Type 0) (xs : List A) → ((k : ℕ) (d : A) → k < length xs → P (get_or xs k d)) → Each P xs
  each_of P [] h = tt
  each_of P (x ∷ xs) h = (h 0 x (omega arith), each_of P xs (λ k d l. h (suc k) d (omega arith)))

  -- An item at a position.
  pub any_at : (P : A → Type 0) (xs : List A) (i : ℕ) (d : A) → i < length xs → P (get_or xs i d) → AnyOf P xs
  any_at P [] i d l p = absurd (omega arith)
  any_at P (x ∷ xs) zero d l p = inl p
  any_at P (x ∷ xs) (suc i) d l p = inr (any_at P xs i d (omega arith) p)

  -- What follows of an item holds of one.
  pub any_map : (P Q : A → Type 0) → ((x : A) → P x → Q x) → (xs : List A) → AnyOf P xs → AnyOf Q xs
  any_map P Q f [] a = absurd a
  any_map P Q f (x ∷ xs) (inl p) = inl (f x p)
  any_map P Q f (x ∷ xs) (inr a) = inr (any_map P Q f xs a)

  -- An item of one of two parts.
  pub any_parts : (P : A → Type 0) (xs ys : List A) → AnyOf P (xs ++ ys) → AnyOf P xs ⊎ AnyOf P ys
  any_parts P [] ys a = inr a
  any_parts P (x ∷ xs) ys (inl p) = inl (inl p)
  any_parts P (x ∷ xs) ys (inr a) = ⊎_elim (λ b. inl (inr b)) inr (any_parts P xs ys a)

  -- An item of the first part is one of the whole.
  pub any_front : (P : A → Type 0) (xs ys : List A) → AnyOf P xs → AnyOf P (xs ++ ys)
  any_front P [] ys a = absurd a
  any_front P (x ∷ xs) ys (inl p) = inl p
  any_front P (x ∷ xs) ys (inr a) = inr (any_front P xs ys a)

  -- An item of the second part is one of the whole.
  pub any_back : (P : A → Type 0) (xs ys : List A) → AnyOf P ys → AnyOf P (xs ++ ys)
  any_back P [] ys a = a
  any_back P (x ∷ xs) ys a = inr (any_back P xs ys a)

  -- One of two facts holds of an item.
  pub any_split : (P Q : A → Type 0) (xs : List A) → AnyOf (λ x. P x ⊎ Q x) xs → AnyOf P xs ⊎ AnyOf Q xs
  any_split P Q [] a = absurd a
  any_split P Q (x ∷ xs) (inl (inl p)) = inl (inl p)
  any_split P Q (x ∷ xs) (inl (inr q)) = inr (inl q)
  any_split P Q (x ∷ xs) (inr a) = ⊎_elim (λ b. inl (inr b)) (λ b. inr (inr b)) (any_split P Q xs a)

  -- Each of the first n items.
  abbrev pub EachOfFirst : (A → Type 0) → ℕ → List A → Type 0
  EachOfFirst P zero xs = ⊤
  EachOfFirst P (suc n) [] = ⊤
  EachOfFirst P (suc n) (x ∷ xs) = P x × EachOfFirst P n xs

  -- The item after them has it too.
  pub first_more : (P : A → Type 0) (n : ℕ) (xs : List A) (y : A) (ys : List A) → length xs ≡ n → P y → EachOfFirst P n (xs ++ y ∷ ys) → EachOfFirst P (suc n) (xs ++ y ∷ ys)
  first_more P zero [] y ys l p e = (p, tt)
  first_more P zero (x ∷ xs) y ys l p e = absurd (omega arith)
  first_more P (suc n) [] y ys l p e = absurd (omega arith)
  first_more P (suc n) (x ∷ xs) y ys l p e = (e.0, first_more P n xs y ys (omega arith) p e.1)

  -- So it is where the item after them is changed to one that has it.
  pub first_set : (P : A → Type 0) (n : ℕ) (xs : List A) (y : A) → n < length xs → P y → EachOfFirst P n xs → EachOfFirst P (suc n) (set xs n y)
  first_set P zero [] y l p e = absurd (omega arith)
  first_set P zero (x ∷ xs) y l p e = (p, tt)
  first_set P (suc n) [] y l p e = absurd (omega arith)
  first_set P (suc n) (x ∷ xs) y l p e = (e.0, first_set P n xs y (omega arith) p e.1)

  -- Those are all.
  pub first_all : (P : A → Type 0) (n : ℕ) (xs : List A) → length xs ≤ n → EachOfFirst P n xs → Each P xs
  first_all P zero [] l e = tt
  first_all P zero (x ∷ xs) l e = absurd (omega arith)
  first_all P (suc n) [] l e = tt
  first_all P (suc n) (x ∷ xs) l e = (e.0, first_all P n xs (omega arith) e.1)

  module _ (R : A → A → Type 0) where
    -- Of two lists put together.
    pub pairwise_append : (xs xs' ys ys' : List A) → Pairwise R xs xs' → Pairwise R ys ys' → Pairwise R (xs ++ ys) (xs' ++ ys')
    pairwise_append [] [] ys ys' p q = q
    pairwise_append [] (x ∷ xs) ys ys' p q = absurd p
    pairwise_append (x ∷ xs) [] ys ys' p q = absurd p
    pairwise_append (x ∷ xs) (y ∷ xs') ys ys' p q = (p.0, pairwise_append xs xs' ys ys' p.1 q)

    -- Of a list in two parts.
    pub pairwise_joined : (whole xs xs' ys ys' : List A) → whole ≡ xs ++ ys → Pairwise R xs xs' → Pairwise R ys ys' → Pairwise R whole (xs' ++ ys')
    pairwise_joined whole xs xs' ys ys' is p q = subst (λ (l : List A). Pairwise R l (xs' ++ ys')) (sym is) (pairwise_append xs xs' ys ys' p q)

    -- A list and itself.
    pub pairwise_refl : ((x : A) → R x x) → (xs : List A) → Pairwise R xs xs
    pairwise_refl f [] = tt
    pairwise_refl f (x ∷ xs) = (f x, pairwise_refl f xs)

    -- By way of a list between.
    pub pairwise_trans : ((x y z : A) → R x y → R y z → R x z) → (xs ys zs : List A) → Pairwise R xs ys → Pairwise R ys zs → Pairwise R xs zs
    pairwise_trans f [] [] [] p q = tt
    pairwise_trans f [] [] (z ∷ zs) p q = absurd q
    pairwise_trans f [] (y ∷ ys) zs p q = absurd p
    pairwise_trans f (x ∷ xs) [] zs p q = absurd p
    pairwise_trans f (x ∷ xs) (y ∷ ys) [] p q = absurd q
    pairwise_trans f (x ∷ xs) (y ∷ ys) (z ∷ zs) p q = (f x y z p.0 q.0, pairwise_trans f xs ys zs p.1 q.1)

    -- What each item keeps, the list keeps.
    pub each_along : (P Q : A → Type 0) → ((x y : A) → R x y → P x → Q y) → (xs ys : List A) → Pairwise R xs ys → Each P xs → Each Q ys
    each_along P Q f [] [] p e = tt
    each_along P Q f [] (y ∷ ys) p e = absurd p
    each_along P Q f (x ∷ xs) [] p e = absurd p
    each_along P Q f (x ∷ xs) (y ∷ ys) p e = (f x y p.0 e.0, each_along P Q f xs ys p.1 e.1)

    -- What each of the first items keeps, they keep.
    pub first_along : (P Q : A → Type 0) → ((x y : A) → R x y → P x → Q y) → (n : ℕ) (xs ys : List A) → Pairwise R xs ys → EachOfFirst P n xs → EachOfFirst Q n ys
    first_along P Q f zero xs ys p e = tt
    first_along P Q f (suc n) [] [] p e = tt
    first_along P Q f (suc n) [] (y ∷ ys) p e = absurd p
    first_along P Q f (suc n) (x ∷ xs) [] p e = absurd p
    first_along P Q f (suc n) (x ∷ xs) (y ∷ ys) p e = (f x y p.0 e.0, first_along P Q f n xs ys p.1 e.1)

    -- What each item keeps, one that has it keeps.
    pub any_along : (P Q : A → Type 0) → ((x y : A) → R x y → P x → Q y) → (xs ys : List A) → Pairwise R xs ys → AnyOf P xs → AnyOf Q ys
    any_along P Q f [] ys p a = absurd a
    any_along P Q f (x ∷ xs) [] p a = absurd p
    any_along P Q f (x ∷ xs) (y ∷ ys) p (inl b) = inl (f x y p.0 b)
    any_along P Q f (x ∷ xs) (y ∷ ys) p (inr a) = inr (any_along P Q f xs ys p.1 a)

    -- What each item had before, one that has it had.
    pub any_against : (P Q : A → Type 0) → ((x y : A) → R x y → Q y → P x) → (xs ys : List A) → Pairwise R xs ys → AnyOf Q ys → AnyOf P xs
    any_against P Q f xs [] p a = absurd a
    any_against P Q f [] (y ∷ ys) p a = absurd p
    any_against P Q f (x ∷ xs) (y ∷ ys) p (inl b) = inl (f x y p.0 b)
    any_against P Q f (x ∷ xs) (y ∷ ys) p (inr a) = inr (any_against P Q f xs ys p.1 a)

    -- What an item has is from before, or something else follows of it.
    pub any_or : (P Q S : A → Type 0) → ((x y : A) → R x y → Q y → P x ⊎ S y) → (xs ys : List A) → Pairwise R xs ys → AnyOf Q ys → AnyOf P xs ⊎ AnyOf S ys
    any_or P Q S f xs [] p a = absurd a
    any_or P Q S f [] (y ∷ ys) p a = absurd p
    any_or P Q S f (x ∷ xs) (y ∷ ys) p (inl b) = ⊎_elim (λ c. inl (inl c)) (λ c. inr (inl c)) (f x y p.0 b)
    any_or P Q S f (x ∷ xs) (y ∷ ys) p (inr a) = ⊎_elim (λ c. inl (inr c)) (λ c. inr (inr c)) (any_or P Q S f xs ys p.1 a)

    -- The lists are as long as each other.
    pub pairwise_length : (xs ys : List A) → Pairwise R xs ys → length ys ≡ length xs
    pairwise_length [] [] p = refl
    pairwise_length [] (y ∷ ys) p = absurd p
    pairwise_length (x ∷ xs) [] p = absurd p
    pairwise_length (x ∷ xs) (y ∷ ys) p = ap suc (pairwise_length xs ys p.1)

    -- What follows of the pairs and of the first list's items.
    pub pairwise_map : (S : A → A → Type 0) (P : A → Type 0) → ((x y : A) → P x → R x y → S x y) → (xs ys : List A) → Each P xs → Pairwise R xs ys → Pairwise S xs ys
    pairwise_map S P f [] [] e p = tt
    pairwise_map S P f [] (y ∷ ys) e p = absurd p
    pairwise_map S P f (x ∷ xs) [] e p = absurd p
    pairwise_map S P f (x ∷ xs) (y ∷ ys) e p = (f x y e.0 p.0, pairwise_map S P f xs ys e.1 p.1)

-- What a worker's place knows, and how each step of the desk changes it. Own.
use Rattle.std.specs.Prelude.{ℕ, ◌+◌, ◌-◌, ◌^◌, ◌<◌, Bool, false, not, ◌||◌, nat_lt, cond, List, [], ◌∷◌, ◌++◌, max}
use Rattle.shared_best.specs.declared.view.View.{View}

abbrev pub view : List ℕ → ℕ → ℕ → ℕ → ℕ → View
view claims seen told share tasks = record { claims = claims; seen = seen; told = told; share = share; tasks = tasks }

-- The view of the place that a desk is opened with: it has the whole share.
abbrev pub first_view : ℕ → View
first_view tasks = view [] 0 0 (2 ^ 32) tasks

-- What is left of a view that was joined to another. It is no place's any more.
abbrev pub spent_view : View
spent_view = view [] 0 0 0 0

-- 1 for a number that is no task's, being n or above; else 0.
abbrev pub one_if_past : ℕ → ℕ → ℕ
one_if_past n x = cond (nat_lt x n) 0 1

-- Whether some number is n or above.
abbrev pub any_past : ℕ → List ℕ → Bool
any_past n [] = false
any_past n (x ∷ xs) = not (nat_lt x n) || any_past n xs

abbrev pub AllBelow : ℕ → List ℕ → Type 0
AllBelow n [] = Unit {0}
AllBelow n (x ∷ xs) = (x < n) × AllBelow n xs

-- The place has claimed a number that is no task's.
abbrev pub is_done : View → Bool
is_done v = any_past v.tasks v.claims

-- ---- Its steps.

abbrev pub with_claim : View → ℕ → View
with_claim v n = view (v.claims ++ n ∷ []) v.seen v.told v.share v.tasks

abbrev pub with_seen : View → ℕ → View
with_seen v n = view v.claims n v.told v.share v.tasks

abbrev pub with_told : View → ℕ → View
with_told v n = view v.claims v.seen (max v.told n) v.share v.tasks

-- A view that is split gives one unit of its share.
abbrev pub after_split : View → View
after_split v = view v.claims v.seen v.told (v.share - 1) v.tasks

-- The view that is split off has that unit, and knows nothing yet.
abbrev pub split_off : View → View
split_off v = view [] 0 0 1 v.tasks

abbrev pub joined : View → View → View
joined v w = view (v.claims ++ w.claims) (max v.seen w.seen) (max v.told w.told) (v.share + w.share) v.tasks

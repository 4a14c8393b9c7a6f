-- The lists of ladders, and where a product's stands.
use Rattle.std.proofs.Common.{◌≡◌, ℕ, List, [], ◌∷◌, ◌++◌, length, sym, ◌∙◌, refl, arith}
use Rattle.std.proofs.lemmas.List.{get_or_default, get_or_push, length_push}
use Rattle.offer_model.specs.Problems.{ProblemData, product_count}
use Rattle.offer_model.specs.LeafBounds.{ladder_of}
use Rattle.leaf_bounds.specs.LadderLists.{Collects, IsLadderOf, StandsAt}

-- Products of one ladder have the same list.
pub same_stands : (p : ProblemData) (lists : List (List ℕ)) (i j place : ℕ) → ladder_of p j ≡ ladder_of p i
    → StandsAt p lists j place → StandsAt p lists i place
same_stands p lists i j place same s = record {
  inside = s.inside;
  is = record { inside = s.is.inside; all = λ k l e. s.is.all k l (e ∙ sym same) };
}

-- All products of a ladder.
collected : (p : ProblemData) (i : ℕ) (list : List ℕ) → Collects p (ladder_of p i) (product_count p) list → IsLadderOf p i list
collected p i list c = record {
  inside = λ q l. c.each q 0 l;
  all = λ j l e. let h = c.all j l e in (h.0, h.1, get_or_default list h.0 0 j h.1 ∙ h.2);
}

-- A new list stands last.
pub new_stands : (p : ProblemData) (lists : List (List ℕ)) (i : ℕ) (list : List ℕ) → Collects p (ladder_of p i) (product_count p) list
    → StandsAt p (lists ++ list ∷ []) i (length lists)
new_stands p lists i list c = record {
  inside = rw (length_push lists list) (omega arith);
  is = rw (get_or_push lists list [] (length lists) refl) (collected p i list c);
}

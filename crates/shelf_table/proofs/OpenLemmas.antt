-- The first Open product, from where its definition finds one.
use Rattle.std.proofs.Common.{◌≡◌, ◌≢◌, ℕ, zero, suc, ◌<◌, List, [], ◌∷◌, length, refl, subst, arith, Option, Some, None}
use Rattle.std.specs.Prelude.{option_map}
use Rattle.offer_model.specs.declared.node.Mark.{Mark}
use Rattle.offer_model.specs.declared.node.Mark.TheVariants.{In, Out, Open}
use Rattle.offer_model.specs.Branching.{IsFirstOpen}
use Rattle.offer_model.specs.Nodes.{mark_at, first_open}

earlier : (m : Mark) (node : List Mark) (j k : ℕ) → m ≢ Open → ((i : ℕ) → i < j → mark_at node i ≢ Open) → k < suc j → mark_at (m ∷ node) k ≢ Open
earlier m node j zero other before l = other
earlier m node j (suc k) other before l = before k (omega arith)

further : (m : Mark) (node : List Mark) (i : ℕ) (o : Option ℕ) → m ≢ Open → first_open node ≡ o → option_map suc o ≡ Some i
    → ((j : ℕ) → first_open node ≡ Some j → IsFirstOpen node j) → IsFirstOpen (m ∷ node) i
further m node i None other found e rest = absurd cc
further m node i (Some j) other found e rest =
    let own = rest j found in
    let same : suc j ≡ i = cc in
    subst (IsFirstOpen (m ∷ node)) same (record { open_mark = own.open_mark; first = λ k l. earlier m node j k other own.first l })

-- What is found is the first Open product.
pub IsFirstOpen-from_found : (node : List Mark) (i : ℕ) → first_open node ≡ Some i → IsFirstOpen node i
IsFirstOpen-from_found [] i e = absurd cc
IsFirstOpen-from_found (Open ∷ node) i e =
    let same : 0 ≡ i = cc in
    subst (IsFirstOpen (Open ∷ node)) same (record { open_mark = refl; first = λ k l. absurd (omega arith) })
IsFirstOpen-from_found (In ∷ node) i e = further In node i (first_open node) (λ o. cc) refl e (λ j f. IsFirstOpen-from_found node j f)
IsFirstOpen-from_found (Out ∷ node) i e = further Out node i (first_open node) (λ o. cc) refl e (λ j f. IsFirstOpen-from_found node j f)

no_map : (o : Option ℕ) → option_map suc o ≡ None → o ≡ None
no_map None e = refl
no_map (Some j) e = absurd cc

-- Where none is found, no product is Open.
pub none_open : (node : List Mark) (i : ℕ) → first_open node ≡ None → i < length node → mark_at node i ≢ Open
none_open [] i e l = absurd (omega arith)
none_open (Open ∷ node) i e l = absurd cc
none_open (In ∷ node) zero e l = λ o. cc
none_open (In ∷ node) (suc i) e l = none_open node i (no_map (first_open node) e) (omega arith)
none_open (Out ∷ node) zero e l = λ o. cc
none_open (Out ∷ node) (suc i) e l = none_open node i (no_map (first_open node) e) (omega arith)

-- How a leaf closes its node, by the bound that it has.
use Rattle.std.proofs.Common.{◌≡◌, ℕ, Bool, List, ◌↔◌, IsTrue, refl, subst, sym, Option, Some, None, not, true, false}
use Rattle.std.specs.Option.{is_some}
use Rattle.std.proofs.lemmas.List.Elements.{All-get_or}
use Rattle.offer_model.specs.declared.node.Mark.{Mark}
use Rattle.offer_model.specs.declared.products.ModelName.{ModelName}
use Rattle.offer_model.specs.declared.products.ModelName.TheVariants.{Logit, Attract, Mixed, Chain}
use Rattle.offer_model.specs.declared.products.Limit.TheVariants.{Total}
use Rattle.offer_model.specs.Problems.{ProblemData}
use Rattle.offer_model.specs.Limits.{Meets, IsFeasible}
use Rattle.offer_model.specs.Nodes.{Clashes}
use Rattle.offer_model.specs.Validity.{IsRatioModel}
use Rattle.offer_model.specs.Prices.{Prices}
use Rattle.proof_lines.specs.declared.line.Shape.{Shape}
use Rattle.proof_lines.specs.declared.line.Shape.TheVariants as S
use Rattle.proof_lines.specs.Lines.{IsLine}
use Rattle.limit_rules.specs.Broken.{IsFirstBroken}
use Rattle.proof_lines.specs.Closing.{own_prices, PricesClose, ClosesUnder, Closes}

under : (m : ModelName) (p : ProblemData) (x : List Bool) (node : List Mark) (s : Shape) (us : List ℕ) → IsRatioModel m
    → ClosesUnder m p x node s us ↔ PricesClose p x node s us (own_prices p x)
under Logit p x node s us r = (λ h. h, λ h. h)
under Attract p x node s us r = (λ h. h, λ h. h)
under Mixed p x node s us r = absurd r
under Chain p x node s us r = absurd r

-- A leaf but a clash closes its node by prices.
pub prices_from_closes : (p : ProblemData) (x : List Bool) (node : List Mark) (s : Shape) (us : List ℕ) → (s ≡ S.Clash → ⊥) → IsRatioModel p.model
    → Closes p x node s us → PricesClose p x node s us (own_prices p x)
prices_from_closes p x node S.Clash us d r k = absurd (d refl)
prices_from_closes p x node s us d r k = (under p.model p x node s us r).0 k

pub closes_from_prices : (p : ProblemData) (x : List Bool) (node : List Mark) (s : Shape) (us : List ℕ) → (s ≡ S.Clash → ⊥) → IsRatioModel p.model
    → PricesClose p x node s us (own_prices p x) → Closes p x node s us
closes_from_prices p x node S.Clash us d r k = absurd (d refl)
closes_from_prices p x node s us d r k = (under p.model p x node s us r).1 k

-- A leaf that is judged by prices which are those at the revenue of x.
pub judged : (p : ProblemData) (x : List Bool) (node : List Mark) (s : Shape) (us : List ℕ) (at : Prices) (b : Bool) → (s ≡ S.Clash → ⊥) → IsRatioModel p.model
    → at ≡ own_prices p x → IsTrue b ↔ PricesClose p x node s us at → IsTrue b ↔ Closes p x node s us
judged p x node s us at b d r own h =
    let P : Prices → Type 0 = λ z. PricesClose p x node s us z in (
      λ t. closes_from_prices p x node s us d r (subst P own (h.0 t)),
      λ k. h.1 (subst P (sym own) (prices_from_closes p x node s us d r k)),
    )

-- A clash.
pub judged_clash : (p : ProblemData) (x : List Bool) (node : List Mark) (s : Shape) (us : List ℕ) (b : Bool) → s ≡ S.Clash → IsLine s us
    → IsTrue b ↔ Clashes p node → IsTrue b ↔ Closes p x node s us
judged_clash p x node s us b e line h = rw e (λ t. (rw e at line, h.0 t), λ k. h.1 k.1)

-- An assortment breaks no limit first exactly where it is feasible.
pub none_broken : (p : ProblemData) (x : List Bool) (o : Option ℕ) (none : Bool) → is_some o ≡ not none → IsFirstBroken p x o → IsTrue none ↔ IsFeasible p x
none_broken p x None true e f = (λ t. f, λ k. refl)
none_broken p x None false e f = cc
none_broken p x (Some k) true e f = cc
none_broken p x (Some k) false e f = (λ t. cc, λ feasible. absurd (f.broken (All-get_or (Meets p x) p.limits k (Total 0) f.there feasible.1)))

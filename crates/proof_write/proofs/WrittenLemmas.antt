-- What writers write is a certificate that they may write.
use Rattle.std.proofs.Common.{◌≡◌, ℕ, ◌≤◌, Bool, true, false, List, [], ◌∷◌, ◌++◌, length, refl, sym, arith, subst, inl, inr, Ok, Err, Result}
use Rattle.std.specs.Prelude.{IsTrue, OnOk, IsErrOf}
use Rattle.offer_io.specs.Causes.{Rose}
use Rattle.offer_io.specs.Stores.{StoreView, Extends}
use Rattle.offer_model.specs.declared.ranges.TheConstants.{MOST_PRODUCTS}
use Rattle.offer_model.specs.declared.products.ModelName.{ModelName}
use Rattle.offer_model.specs.declared.products.ModelName.TheVariants.{Logit, Attract, Mixed, Chain}
use Rattle.offer_model.specs.Problems.{ProblemData, product_count}
use Rattle.offer_model.specs.Validity.{IsProblem, IsRatioModel}
use Rattle.offer_model.specs.Best.{IsBest}
use Rattle.offer_model.specs.Nodes.{open_node}
use Rattle.proof_lines.specs.declared.line.Line.{Line}
use Rattle.proof_lines.specs.declared.line.Shape.TheVariants as S
use Rattle.proof_lines.specs.Lines.{LineData, line, IsLine, AreLines, text_of}
use Rattle.proof_lines.specs.Trees.{Tree, tree_lines}
use Rattle.proof_lines.specs.Closing.{TreeCloses}
use Rattle.proof_lines.specs.Acceptance.{value_numbers}
use Rattle.proof_lines.specs.Writing.{exact_leaf, RatioForm, FormUnder, IsWritten}
use Rattle.proof_lines.proofs.CallerLemmas.{TreeCloses-leaves}
use Rattle.proof_tree.specs.Feeding.{joined}
use Rattle.proof_tree.specs.LineLeaves.{text_tree}
use Rattle.proof_tree.specs.Pens.{lines_data}
use Rattle.proof_tree.specs.Puts.{Adds, Puts}
use Rattle.proof_tree.specs.Trees.{tree_texts, end_text}
use Rattle.proof_tree.proofs.LineLeafLemmas.{whole_text}
use Rattle.proof_write.specs.declared.faults.ProofFault.{ProofFault}
use Rattle.proof_write.specs.declared.faults.ProofFault.TheVariants.{WriteFault, NoMemory}
use Rattle.proof_write.specs.HeaderLines.{header_lines, IsHeader}
use Rattle.proof_write.specs.Outputs.{HasWritten, HasWrittenPart}
use Rattle.proof_write.proofs.LineLemmas.{set_is_line}

-- ---- A certificate.

-- The best assortment of a problem, whose header is of lines.
pub record IsClaimed (p : ProblemData) (x : List Bool) : Type 0 where
  pub best : IsBest p x
  pub few : length x ≤ MOST_PRODUCTS
  pub line : IsLine S.Value (value_numbers p x)

-- A problem's best assortment and its value line.
pub claimed : (p : ProblemData) (x : List Bool) → IsProblem p → IsBest p x → IsLine S.Value (value_numbers p x) → IsClaimed p x
claimed p x valid best value = record {
  best = best;
  few = (let same = best.feasible.0 in let most = valid.few in omega arith);
  line = value;
}

-- The lines of a certificate.
abbrev pub proof_lines : ProblemData → List Bool → Tree → List LineData
proof_lines p x tree = header_lines p.model x (value_numbers p x) ++ tree_lines tree (line S.End [] ∷ [])

-- A tree of the form that closes makes one that writers may write.
pub written : (p : ProblemData) (x : List Bool) (tree : Tree) → IsClaimed p x → TreeCloses p x (open_node (product_count p)) tree
    → AreLines (tree_lines tree (line S.End [] ∷ [])) → FormUnder p.model p x tree → IsWritten p (text_of (proof_lines p x tree))
written p x tree f closed lines form = (
  x,
  tree,
  record {
    best = f.best;
    accepted = record {
      proof = record {
        lines = (refl, (refl, (set_is_line x f.few, (f.line, lines))));
        leaves = TreeCloses-leaves p x (open_node (product_count p)) tree closed;
        whole = refl;
      };
      feasible = f.best.feasible;
      closed = closed;
    };
    form = form;
  },
)

form_under : (m : ModelName) (p : ProblemData) (x : List Bool) (tree : Tree) → IsRatioModel m → RatioForm p x (exact_leaf p.limits) tree → FormUnder m p x tree
form_under Logit p x tree r h = h
form_under Attract p x tree r h = h
form_under Mixed p x tree r h = absurd r
form_under Chain p x tree r h = absurd r

-- The form under logit and generalised attraction.
pub ratio_form : (p : ProblemData) (x : List Bool) (tree : Tree) → IsRatioModel p.model → RatioForm p x (exact_leaf p.limits) tree → FormUnder p.model p x tree
ratio_form p x tree ratio h = form_under p.model p x tree ratio h

-- ---- What a writer answers.

-- A text that writers may write is written, or a part from its front.
abbrev pub WritesProof : {T E : Type 0} → ProblemData → StoreView → Result T E → StoreView → Type 0
WritesProof p old result new = (text : List ℕ) × IsWritten p text × Puts old text result new

-- The bytes of a header, a tree and the end are the text of the certificate.
pub writes_proof : {T E : Type 0} (p : ProblemData) (x : List Bool) (tree : Tree) (header : List Line) (old new : StoreView) (result : Result T E)
    → IsHeader p x header → IsWritten p (text_of (proof_lines p x tree))
    → Puts old (text_of (lines_data header) ++ joined (tree_texts (text_tree tree) (end_text ∷ []))) result new → WritesProof p old result new
writes_proof p x tree header old new result f w h =
    let lines = header_lines p.model x (value_numbers p x) in
    let same = subst (λ z. text_of z ++ joined (tree_texts (text_tree tree) (end_text ∷ [])) ≡ text_of (lines ++ tree_lines tree (line S.End [] ∷ []))) (sym f)
    (whole_text lines tree) in
    (text_of (proof_lines p x tree), w, subst (λ z. Puts old z result new) same h)

some_text : (p : ProblemData) (text : List ℕ) → IsWritten p text → text ≡ [] → ⊥
some_text p text w e = let whole = w.2.accepted.proof.whole in cc

-- All of it is written.
pub proof_whole : {T E : Type 0} (p : ProblemData) (old new : StoreView) (t : T) → WritesProof {T = T} {E = E} p old (Ok t) new → HasWritten p old new
proof_whole p old new t w = (w.0, w.1, grown w.2.whole)
  where
    grown : Adds old w.0 new → Extends old w.0 new
    grown (inl same) = absurd (some_text p w.0 w.1 same.0)
    grown (inr g) = g

-- A part of it is written.
pub proof_part : {T E : Type 0} (p : ProblemData) (old new : StoreView) (e : E) → WritesProof {T = T} {E = E} p old (Err e) new → HasWrittenPart p old new
proof_part p old new e w = (w.0, w.1, w.2.part)

-- On a steady store all of it is.
pub proof_unready : {T E : Type 0} (p : ProblemData) (old new : StoreView) (e : E) → WritesProof {T = T} {E = E} p old (Err e) new → IsTrue old.steady → ⊥
proof_unready p old new e w steady = never (w.2.ready steady)
  where
    never : false ≡ true → ⊥
    never h = cc

-- ---- What it answers in all.

-- The same bytes were put, where the answer has another type of failure.
pub puts_whole : {T E F : Type 0} (old new : StoreView) (bytes : List ℕ) (t : T) → Puts {T = T} {E = E} old bytes (Ok t) new
    → Puts {T = T} {E = F} old bytes (Ok t) new
puts_whole old new bytes t h = record { whole = h.whole; part = tt; writing = h.writing; cause = tt; ready = λ steady. refl }

pub puts_part : {T E F : Type 0} (old new : StoreView) (bytes : List ℕ) (e : E) (f : F) → Puts {T = T} {E = E} old bytes (Err e) new
    → Puts {T = T} {E = F} old bytes (Err f) new
puts_part old new bytes e f h = record { whole = tt; part = h.part; writing = h.writing; cause = h.cause; ready = h.ready }

-- What the answer of a writer says of the output.
pub record Answers {T : Type 0} (p : ProblemData) (old : StoreView) (result : Result T ProofFault) (new : StoreView) : Type 0 where
  pub written : OnOk result (HasWritten p old new)
  pub part : IsErrOf result WriteFault → HasWrittenPart p old new
  pub cause : IsErrOf result WriteFault → Rose old.faults new.faults
  pub ready : IsTrue old.steady → IsErrOf result WriteFault → ⊥

pub answers : {T : Type 0} (p : ProblemData) (old : StoreView) (result : Result T ProofFault) (new : StoreView)
    → ((IsErrOf result NoMemory → ⊥) → WritesProof p old result new) → Answers p old result new
answers p old (Ok t) new writes =
    let own = writes (λ e. cc) in
    record { written = proof_whole p old new t own; part = λ e. cc; cause = λ e. cc; ready = λ steady e. cc }
answers p old (Err WriteFault) new writes =
    let own = writes (λ e. cc) in
    record { written = tt; part = λ e. proof_part p old new WriteFault own; cause = λ e. own.2.cause; ready = λ steady e. proof_unready p old new WriteFault own steady }
answers p old (Err NoMemory) new writes = record { written = tt; part = λ e. cc; cause = λ e. cc; ready = λ steady e. cc }

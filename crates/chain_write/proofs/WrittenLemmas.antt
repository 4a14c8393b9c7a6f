-- What the writer writes is the certificate of the chain.
use Rattle.std.proofs.Common.{◌≡◌, ℕ, true, false, List, [], subst, inl, inr, Ok, Err, Result}
use Rattle.std.specs.Prelude.{IsTrue, OnOk, IsErrOf}
use Rattle.offer_io.specs.Causes.{Rose}
use Rattle.offer_io.specs.Stores.{StoreView, Extends}
use Rattle.offer_model.specs.Chains.{ChainData}
use Rattle.offer_model.specs.Stopping.{StoppingData, IsStopping}
use Rattle.proof_lines.specs.declared.line.Line.{Line}
use Rattle.proof_lines.specs.Lines.{LineData, text_of}
use Rattle.proof_lines.specs.Acceptance.{chain_lines, IsAcceptedChain}
use Rattle.proof_lines.specs.Writing.{IsWrittenChain}
use Rattle.proof_tree.specs.Pens.{lines_data}
use Rattle.proof_tree.specs.Puts.{Adds, Puts}
use Rattle.proof_write.specs.declared.faults.ProofFault.{ProofFault}
use Rattle.proof_write.specs.declared.faults.ProofFault.TheVariants.{WriteFault, NoMemory}
use Rattle.chain_write.specs.Outputs.{HasWrittenChain, HasWrittenChainPart}

-- What the answer of the writer says of the output.
pub record Answers {T : Type 0} (c : ChainData) (old : StoreView) (result : Result T ProofFault) (new : StoreView) : Type 0 where
  pub written : OnOk result (HasWrittenChain c old new)
  pub part : IsErrOf result WriteFault → HasWrittenChainPart c old new
  pub cause : IsErrOf result WriteFault → Rose old.faults new.faults
  pub ready : IsTrue old.steady → IsErrOf result WriteFault → ⊥

some_text : (c : ChainData) (text : List ℕ) → IsWrittenChain c text → text ≡ [] → ⊥
some_text c text w e = let whole = w.2.whole in cc

grown : (c : ChainData) (text : List ℕ) (old new : StoreView) → IsWrittenChain c text → Adds old text new → Extends old text new
grown c text old new w (inl same) = absurd (some_text c text w same.0)
grown c text old new w (inr g) = g

never : false ≡ true → ⊥
never h = cc

-- Where the bytes of a certificate are put, the answer says so.
text_answers : {T : Type 0} (c : ChainData) (text : List ℕ) (old : StoreView) (result : Result T ProofFault) (new : StoreView) → IsWrittenChain c text
    → ((IsErrOf result NoMemory → ⊥) → Puts old text result new) → Answers c old result new
text_answers c text old (Ok t) new w puts =
    let own = puts (λ e. cc) in
    record { written = (text, w, grown c text old new w own.whole); part = λ e. cc; cause = λ e. cc; ready = λ steady e. cc }
text_answers c text old (Err WriteFault) new w puts =
    let own = puts (λ e. cc) in
    record { written = tt; part = λ e. (text, w, own.part); cause = λ e. own.cause; ready = λ steady e. never (own.ready steady) }
text_answers c text old (Err NoMemory) new w puts = record { written = tt; part = λ e. cc; cause = λ e. cc; ready = λ steady e. cc }

-- Where the lines that say the stopping vectors are put, and are accepted, the chain's certificate is written.
pub answers : {T : Type 0} (c : ChainData) (s : StoppingData) (ls : List Line) (old : StoreView) (result : Result T ProofFault) (new : StoreView) → IsStopping c s
    → IsAcceptedChain c (text_of (chain_lines s)) s → lines_data ls ≡ chain_lines s → ((IsErrOf result NoMemory → ⊥) → Puts old (text_of (lines_data ls)) result new)
    → Answers c old result new
answers c s ls old result new stopping accepted e puts =
    text_answers c (text_of (chain_lines s)) old result new (s, stopping, accepted) (λ fine. subst (λ (z : List LineData). Puts old (text_of z) result new) e (puts fine))

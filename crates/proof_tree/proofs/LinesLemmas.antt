-- The text of lines, one after another.
use Rattle.std.proofs.Common.{◌≡◌, ◌∙◌, ap, sym, ◌++◌, ◌∷◌, [], ◌+◌, ◌<◌, ℕ, List, length, drop, get_or, append_assoc}
use Rattle.std.proofs.lemmas.List.{drop_more}
use Rattle.proof_lines.specs.declared.line.Line.{Line}
use Rattle.proof_lines.specs.Lines.{line_text, text_of}
use Rattle.proof_tree.specs.Pens.{lines_data}

-- The text of the next line comes before that of the lines after it.
pub next_text : (ls : List Line) (k : ℕ) (l : Line) (text : List ℕ) → k < length ls → l ≡ get_or ls k l → text ≡ line_text l.shape l.numbers.items ++ 10 ∷ []
    → text_of (lines_data (drop k ls)) ≡ text ++ text_of (lines_data (drop (k + 1) ls))
next_text ls k l text inside is own =
    let rest = text_of (lines_data (drop (k + 1) ls)) in
    let more : drop k ls ≡ l ∷ drop (k + 1) ls = drop_more ls k l inside ∙ ap (λ z. z ∷ drop (k + 1) ls) (sym is) in
    ap (λ z. text_of (lines_data z)) more ∙ sym (append_assoc (line_text l.shape l.numbers.items) (10 ∷ []) rest) ∙ ap (λ z. z ++ rest) (sym own)

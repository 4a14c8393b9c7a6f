-- The command `check`: whether a text is a certificate. Own.
use Rattle.std.specs.Prelude.{◌≡◌, ◌⊎◌, ℕ, List, codes}
use Rattle.assort_words.specs.Asked.{RequestData}
use Rattle.assort_core.specs.Certificates.{Certificate, certificate_of}
use Rattle.assort_core.specs.Deeds.{Outcome, answer, no_output, Deed}

abbrev pub accepted_report : List ℕ
accepted_report = codes "accepted\n"

abbrev pub rejected_report : List ℕ
rejected_report = codes "rejected\n"

-- What is said of a text.
abbrev pub IsVerdict : Certificate → List ℕ → Outcome → Type 0
IsVerdict c text o = (c.Accepted text × (o ≡ answer 0 accepted_report)) ⊎ (¬ c.Accepted text × (o ≡ answer 1 rejected_report))

-- What an accepted text says is so.
abbrev pub check_deed : RequestData → Deed
check_deed r = record {
  IsDone = λ i o. IsVerdict (certificate_of r i) i.proof o;
  output = no_output;
  IsClaimed = λ i. (certificate_of r i).Claimed i.proof;
}

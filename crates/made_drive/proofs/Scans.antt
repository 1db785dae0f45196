-- Texts that are scanned one behind the other.
use Rattle.std.proofs.Common.{◌≡◌, ℕ, List, [], ◌++◌, sym, ap, ◌∙◌, refl}
use Rattle.std.specs.Prelude.{fold}
use Rattle.std.proofs.lemmas.List.Sums.{fold-append}
use Rattle.made_drive.specs.declared.scan.Scan.{Scan}
use Rattle.made_drive.specs.Scan.{byte_taken, scan_begun, scanned}

pub scanned_none : scan_begun ≡ scanned []
unfolding scanned
scanned_none = refl

-- more text behind
pub scanned_more : (text more : List ℕ) (scan : Scan) → scan ≡ scanned text → fold byte_taken scan more ≡ scanned (text ++ more)
unfolding scanned
scanned_more text more scan is =
    ap (λ (s : Scan). fold byte_taken s more) is ∙ sym (fold-append byte_taken scan_begun text more)

-- A scan of which no page was read yet.
use Rattle.std.proofs.Common.{◌≡◌, ◌*◌, ℕ, List, false, zero, suc, length, get_or, replicate, None, refl, sym, ap, ◌∙◌, subst, arith}
use Rattle.flash_pages.specs.declared.chip.Geometry.{Geometry}
use Rattle.flash_pages.specs.Chip.{Page, Erased, IsWithinLimits}
use Rattle.flash_pages.specs.Place.{Place, index_of}
use Rattle.flash_pages.specs.Unit.{greatest, newest_rank}
use Rattle.flash_pages.proofs.Greatest.{greatest-replicate}
use Rattle.flash_pages.proofs.Programming.{ranks-erased, current-erased, next_seq-erased}
use Rattle.flash_store.specs.declared.tables.Index.{Index}
use Rattle.flash_store.specs.declared.tally.Tally.{Tally}
use Rattle.flash_store.specs.Scan.{seen, nothing_noted, IsNoted, IsFollowed, IsScannedTo, IsScanned}
use Rattle.flash_store.proofs.Seen.{seen-none}
use Rattle.flash_store.proofs.Valid.{valid-erased}
use Rattle.flash_store.proofs.Order.{scanned-at}

same-replicate : {A : Type 0} → (n i : ℕ) (a : A) → get_or (replicate n a) i a ≡ a
same-replicate zero i a = refl
same-replicate (suc n) zero a = refl
same-replicate (suc n) (suc i) a = same-replicate n i a

noted-none : (n : ℕ) (p : Place) → IsNoted (replicate n Erased) p nothing_noted
noted-none n p =
    let none : newest_rank (replicate n Erased) p ≡ 0 = ap greatest (ranks-erased p n) ∙ greatest-replicate n in
    record {
      rank = sym none;
      once = λ _ a b at_a _. absurd (omega (arith, at_a.0, none));
      twice = λ double. cc;
    }

module _ (geometry : Geometry) (chip : List Page) (within : IsWithinLimits geometry) (count : length chip ≡ geometry.blocks * geometry.pages) (index : Index) (tally : Tally)
    (pages : index.map.pages ≡ replicate (index.luns * index.units) None) (flags : index.validity.valid ≡ replicate (geometry.blocks * geometry.pages) false)
    (written : index.collector.written ≡ replicate geometry.blocks 0) (next : index.next_seq ≡ 0) (newest : tally.newest.items ≡ replicate (index.luns * index.units) nothing_noted)
    (scanned : tally.scanned ≡ 0) (here : tally.here ≡ 0) where
  follows-none : IsFollowed (replicate (length chip) Erased) index tally.newest.items
  follows-none = record {
    mapped = record {
      mapped = λ p _. rw pages (same-replicate (index.luns * index.units) (index_of index.units p) None ∙ sym (current-erased p (length chip)));
      valid = λ n. rw flags (rw (← count) (valid-erased (length chip) n));
      numbered = next ∙ sym (next_seq-erased (length chip));
    };
    noted = λ p _. rw newest (subst (IsNoted (replicate (length chip) Erased) p) (sym (same-replicate (index.luns * index.units) (index_of index.units p) nothing_noted)) (noted-none (length chip) p));
  }

  scanned-to : IsScannedTo geometry chip index tally 0 0
  scanned-to = record {
    place = omega (arith, scanned);
    follows = subst (λ n. IsFollowed (seen chip n) index tally.newest.items) (sym scanned) (rw seen-none follows-none);
    spares = λ page below. absurd (omega (arith, below, scanned));
    ordered = record {
      in_order = λ other page short below. absurd (omega (arith, below));
      most = omega (arith, here);
      front = λ page below. absurd (omega (arith, below, here));
      behind = λ page _ below. absurd (omega (arith, below));
    };
    found = λ other below. absurd (omega (arith, below));
    not_found = λ other _. rw written (same-replicate geometry.blocks other 0);
  }

  pub scanned-none : IsScanned geometry chip index tally
  scanned-none = scanned-at geometry chip within count index tally 0 0 (omega (arith, within.least_pages)) scanned-to

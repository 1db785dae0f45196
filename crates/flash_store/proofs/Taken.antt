-- A written page that the scan reads.
use Rattle.std.proofs.Common.{◌≡◌, ◌+◌, ◌*◌, ◌<◌, ◌≤◌, ℕ, List, true, false, cond, nat_lt, max, length, get_or, set, Some, refl, sym, ap, ◌∙◌, arith}
use Rattle.std.proofs.lemmas.Bool.{ltb-true, ltb-false}
use Rattle.flash_pages.specs.declared.chip.Spare.{Spare}
use Rattle.flash_pages.specs.Chip.{Page, Erased, Written, page_at, bytes_of}
use Rattle.flash_pages.specs.Place.{Place, IsPlace, index_of}
use Rattle.flash_pages.specs.Unit.{place_of, newest_rank, current}
use Rattle.flash_store.specs.declared.tables.Index.{Index}
use Rattle.flash_store.specs.declared.tally.Newest.{Newest}
use Rattle.flash_store.specs.Entries.{flags_after}
use Rattle.flash_store.specs.Scan.{seen, spare_of, spare_at, IsGood, IsNoted, IsFollowed, is_newer, noted, nothing_noted}
use Rattle.flash_store.proofs.Seen.{length-seen, seen-behind, seen-more}
use Rattle.flash_store.proofs.Follows.{noted-after, mapped-older, mapped-newer}

newer-true : (newest : Newest) (rank : ℕ) → is_newer newest rank ≡ true → newest.rank ≤ rank
newer-true newest rank is =
    elim (nat_lt rank newest.rank)
    as (λ t. (nat_lt rank newest.rank ≡ t) → cond t false true ≡ true → newest.rank ≤ rank) [
      | true ↦ λ _ e. cc
      | false ↦ λ newer _. ltb-false rank newest.rank newer
    ] refl is

newer-false : (newest : Newest) (rank : ℕ) → is_newer newest rank ≡ false → rank < newest.rank
newer-false newest rank is =
    elim (nat_lt rank newest.rank)
    as (λ t. (nat_lt rank newest.rank ≡ t) → cond t false true ≡ false → rank < newest.rank) [
      | true ↦ λ older _. ltb-true rank newest.rank older
      | false ↦ λ _ e. cc
    ] refl is

some_spare : (a b : Spare) → Some a ≡ Some b → a ≡ b
some_spare a b e = cc

pub written-spare : (page : Page) (spare : Spare) → spare_of page ≡ Some spare → page ≡ Written (bytes_of page) spare
written-spare Erased spare is = cc
written-spare (Written bytes other) spare is = ap (Written bytes) (some_spare other spare is)

module _ (chip : List Page) (n : ℕ) (spare : Spare) (index : Index) (newest : List Newest) (inside : n < length chip) (shown : spare_at chip n ≡ Some spare)
    (good : IsGood index.luns index.units spare) (follows : IsFollowed (seen chip n) index newest) (size : length newest ≡ index.luns * index.units) where
  abbrev place : Place
  place = place_of spare

  abbrev key : ℕ
  key = index_of index.units place

  abbrev rank : ℕ
  rank = spare.seq + 1

  abbrev was : Newest
  was = get_or newest key nothing_noted

  abbrev bytes : List ℕ
  bytes = bytes_of (page_at chip n)

  long : n < length (seen chip n)
  long = omega (arith, inside, length-seen chip n (omega (arith, inside)))

  behind : (m : ℕ) → n ≤ m → page_at (seen chip n) m ≡ Erased
  behind m from = seen-behind chip n m (omega (arith, inside)) from

  after-is : seen chip (n + 1) ≡ set (seen chip n) n (Written bytes spare)
  after-is = seen-more chip n inside ∙ ap (set (seen chip n) n) (written-spare (page_at chip n) spare shown)

  was-rank : was.rank ≡ newest_rank (seen chip n) place
  was-rank = (follows.noted place good.0).rank

  noted-now : (p : Place) → IsPlace index.luns index.units p → IsNoted (set (seen chip n) n (Written bytes spare)) p (get_or (set newest key (noted was rank)) (index_of index.units p) nothing_noted)
  noted-now = noted-after (seen chip n) n bytes spare long behind index.luns index.units newest size good.0 follows.noted

  pub follows-older : is_newer was rank ≡ false → (next : ℕ) → next ≡ max index.next_seq rank
      → IsFollowed (seen chip (n + 1)) (record { luns = index.luns; units = index.units; map = index.map; validity = index.validity; collector = index.collector; next_seq = next })
      (set newest key (noted was rank))
  follows-older older next is =
      rw after-is (record {
        mapped = mapped-older (seen chip n) n bytes spare long behind index follows.mapped (omega (arith, newer-false was rank older, was-rank)) next is;
        noted = noted-now;
      })

  pub follows-newer : length index.map.pages ≡ index.luns * index.units → length index.validity.valid ≡ length chip → is_newer was rank ≡ true → (next lookups : ℕ) → next ≡ max index.next_seq rank
      → IsFollowed (seen chip (n + 1)) (record {
        luns = index.luns;
        units = index.units;
        map = record { pages = set index.map.pages key (Some n); page_count = index.map.page_count; lookups = lookups };
        validity = record { geometry = index.validity.geometry; valid = flags_after index.validity.valid n (current (seen chip n) place) };
        collector = index.collector;
        next_seq = next;
      }) (set newest key (noted was rank))
  follows-newer map_size flag_size newer next lookups is =
      rw after-is (record {
        mapped = mapped-newer (seen chip n) n bytes spare long behind index follows.mapped map_size (flag_size ∙ sym (length-seen chip n (omega (arith, inside)))) good.0
            (omega (arith, newer-true was rank newer, was-rank)) next lookups is;
        noted = noted-now;
      })

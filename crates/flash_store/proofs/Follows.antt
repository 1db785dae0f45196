-- The index and what is noted of each place, after one page more was read.
use Rattle.std.proofs.Common.{◌≡◌, ◌≢◌, ◌+◌, ◌*◌, ◌<◌, ◌≤◌, ℕ, List, [], ◌∷◌, zero, suc, true, false, cond, nat_eq}
use Rattle.std.proofs.Common.{nat_lt, max, length, get_or, set, map, None, Some, refl, sym, ap, ◌∙◌, subst, inl, inr}
use Rattle.std.proofs.Common.{arith}
use Rattle.std.specs.Option.{option_map_or}
use Rattle.std.proofs.lemmas.List.{length-map, map-set, get_or-set_same, get_or-set_other}
use Rattle.std.proofs.lemmas.Bool.{cases_eq, ltb-true, ltb-false, eqb-true, eqb-false}
use Rattle.flash_pages.specs.declared.chip.Spare.{Spare}
use Rattle.flash_pages.specs.Chip.{Page, Erased, Written, page_at}
use Rattle.flash_pages.specs.Place.{Place, IsPlace, index_of}
use Rattle.flash_pages.specs.Unit.{place_of, rank_of, rank_for, greatest, newest_rank, current, next_seq}
use Rattle.flash_pages.specs.Sound.{IsNewest}
use Rattle.flash_pages.proofs.Places.{cases_place, same_place-same, same_place-other, index_of-inside}
use Rattle.flash_pages.proofs.Greatest.{IsGreatestAt, IsGreatestAt-position, position_of_greatest-from, get_or-le-greatest, greatest-le-at}
use Rattle.flash_pages.proofs.Programming.{rank-at, current-written, current-others}
use Rattle.collector_laws.proofs.Flags.{current-newest, current-none}
use Rattle.flash_store.specs.declared.tables.Index.{Index}
use Rattle.flash_store.specs.declared.tally.Newest.{Newest}
use Rattle.flash_store.specs.Entries.{has_current, is_valid_page, flags_after}
use Rattle.flash_store.specs.Index.{IsMapped}
use Rattle.flash_store.specs.Scan.{IsTwice, IsNoted, noted, nothing_noted}
use Rattle.flash_store.proofs.Valid.{valid-programmed, tells_not}
use Rattle.flash_store.proofs.Programs.{index-apart, mapped-set}

pub greatest-set-max : (ns : List ℕ) (i m : ℕ) → i < length ns → get_or ns i 0 ≡ 0 → greatest (set ns i m) ≡ max (greatest ns) m
greatest-set-max [] i m inside was = absurd (omega arith)
greatest-set-max (n ∷ ns) zero m inside was = omega (arith, was)
greatest-set-max (n ∷ ns) (suc i) m inside was = omega (arith, greatest-set-max ns i m (omega arith) was)

rank_of-at : (chip : List Page) (page : ℕ) → get_or (map rank_of chip) page 0 ≡ rank_of (page_at chip page)
rank_of-at [] page = refl
rank_of-at (first ∷ chip) zero = refl
rank_of-at (first ∷ chip) (suc page) = rank_of-at chip page

module _ (chip : List Page) (page : ℕ) (bytes : List ℕ) (spare : Spare) (inside : page < length chip) (behind : (m : ℕ) → page ≤ m → page_at chip m ≡ Erased) where
  abbrev pub after : List Page
  after = set chip page (Written bytes spare)

  abbrev place : Place
  place = place_of spare

  abbrev rank : ℕ
  rank = spare.seq + 1

  erased : page_at chip page ≡ Erased
  erased = behind page (omega arith)

  rank-own : rank_for place (Written bytes spare) ≡ rank
  rank-own = ap (λ t. cond t (spare.seq + 1) 0) (same_place-same place)

  rank-other : (p : Place) → place ≢ p → rank_for p (Written bytes spare) ≡ 0
  rank-other p other = ap (λ t. cond t (spare.seq + 1) 0) (same_place-other place p other)

  same-at : (m : ℕ) → m ≢ page → page_at after m ≡ page_at chip m
  same-at m apart = get_or-set_other chip page m (Written bytes spare) Erased apart

  new-at : page_at after page ≡ Written bytes spare
  new-at = get_or-set_same chip page (Written bytes spare) Erased inside

  rank-was : (p : Place) → rank_for p (page_at chip page) ≡ 0
  rank-was p = ap (rank_for p) erased

  ranks : (p : Place) → newest_rank after p ≡ max (newest_rank chip p) (rank_for p (Written bytes spare))
  ranks p =
      ap greatest (map-set (rank_for p) chip page (Written bytes spare))
      ∙ greatest-set-max (map (rank_for p) chip) page (rank_for p (Written bytes spare)) (rw length-map inside) (rank-at p chip page ∙ rank-was p)

  pub numbered-after : next_seq after ≡ max (next_seq chip) rank
  numbered-after =
      ap greatest (map-set rank_of chip page (Written bytes spare))
      ∙ greatest-set-max (map rank_of chip) page rank (rw length-map inside) (rank_of-at chip page ∙ ap rank_of erased)

  most : (p : Place) (m : ℕ) → rank_for p (page_at chip m) ≤ newest_rank chip p
  most p m = rw (← rank-at p chip m) (get_or-le-greatest (map (rank_for p) chip) m)

  -- a page that is as new as those before it is the current one
  pub current-newer : newest_rank chip place ≤ rank → current after place ≡ Some page
  current-newer newer =
      let own : get_or (map (rank_for place) after) page 0 ≡ rank = rank-at place after page ∙ ap (rank_for place) new-at ∙ rank-own in
      position_of_greatest-from (map (rank_for place) after) page (record {
        above = omega (arith, own);
        earlier = λ j before.
            let was : rank_for place (page_at after j) ≡ rank_for place (page_at chip j) = ap (rank_for place) (same-at j (λ e. omega (arith, e, before))) in
            omega (arith, own, newer, rank-at place after j, was, most place j);
        later = λ j later.
            let none : rank_for place (page_at after j) ≡ 0 = ap (rank_for place) (same-at j (λ e. omega (arith, e, later)) ∙ behind j (omega arith)) in
            omega (arith, own, rank-at place after j, none);
      })

  -- an older one is not
  pub current-older : rank < newest_rank chip place → current after place ≡ current chip place
  current-older older =
      elim (current chip place)
      as (λ o. (current chip place ≡ o) → current after place ≡ o) [
        | None ↦ λ none. absurd (omega (arith, older, current-none chip place none))
        | Some i ↦ λ is.
            let at : IsGreatestAt (map (rank_for place) chip) i = IsGreatestAt-position (map (rank_for place) chip) i is in
            let apart : i ≢ page = λ e. current-written chip place i is (ap (page_at chip) e ∙ erased) in
            let own : get_or (map (rank_for place) after) i 0 ≡ get_or (map (rank_for place) chip) i 0 = rank-at place after i ∙ ap (rank_for place) (same-at i apart) ∙ sym (rank-at place chip i) in
            let big : newest_rank chip place ≤ get_or (map (rank_for place) chip) i 0 = greatest-le-at (map (rank_for place) chip) i at in
            let new : get_or (map (rank_for place) after) page 0 ≡ rank = rank-at place after page ∙ ap (rank_for place) new-at ∙ rank-own in
            let same : (j : ℕ) → j ≢ page → get_or (map (rank_for place) after) j 0 ≡ get_or (map (rank_for place) chip) j 0 = λ j other. rank-at place after j ∙ ap (rank_for place) (same-at j other)
            ∙ sym (rank-at place chip j) in
            position_of_greatest-from (map (rank_for place) after) i (record {
              above = omega (arith, own, at.above);
              earlier = λ j before. elim (cases_eq j page) [
                | inl here ↦ let e : get_or (map (rank_for place) after) j 0 ≡ rank = ap (λ k. get_or (map (rank_for place) after) k 0) here ∙ new in omega (arith, e, own, big, older)
                | inr other ↦ omega (arith, same j other, own, at.earlier j before)
              ];
              later = λ j later. elim (cases_eq j page) [
                | inl here ↦ let e : get_or (map (rank_for place) after) j 0 ≡ rank = ap (λ k. get_or (map (rank_for place) after) k 0) here ∙ new in omega (arith, e, own, big, older)
                | inr other ↦ omega (arith, same j other, own, at.later j later)
              ];
            })
      ] refl

  others : (p : Place) → place ≢ p → current after p ≡ current chip p
  others p apart = current-others chip page bytes spare inside erased p apart

  -- the pages with the greatest number of a place, where the new page has none
  is-was : (p : Place) → (0 < newest_rank chip p → rank_for p (Written bytes spare) < newest_rank chip p) → (rank_for p (Written bytes spare) ≤ newest_rank chip p) → (m : ℕ) → IsNewest after p m
      → IsNewest chip p m
  is-was p below few m at =
      let newest : newest_rank after p ≡ newest_rank chip p = ranks p ∙ omega (arith, few) in
      elim (cases_eq m page) [
        | inl here ↦
            let own : rank_for p (page_at after m) ≡ rank_for p (Written bytes spare) = ap (λ k. rank_for p (page_at after k)) here ∙ ap (rank_for p) new-at in
            absurd (omega (arith, own, at.0, at.1, newest, below (omega (arith, at.0, newest))))
        | inr apart ↦
            let same : rank_for p (page_at after m) ≡ rank_for p (page_at chip m) = ap (rank_for p) (same-at m apart) in
            (omega (arith, at.0, newest), omega (arith, same, at.1, newest))
      ]

  was-is : (p : Place) → (rank_for p (Written bytes spare) ≤ newest_rank chip p) → (m : ℕ) → IsNewest chip p m → IsNewest after p m
  was-is p few m at =
      let newest : newest_rank after p ≡ newest_rank chip p = ranks p ∙ omega (arith, few) in
      let apart : m ≢ page = λ e. let none : rank_for p (page_at chip m) ≡ 0 = ap (λ k. rank_for p (page_at chip k)) e ∙ rank-was p in omega (arith, none, at.0, at.1) in
      let same : rank_for p (page_at after m) ≡ rank_for p (page_at chip m) = ap (rank_for p) (same-at m apart) in
      (omega (arith, at.0, newest), omega (arith, same, at.1, newest))

  noted-same : (p : Place) (newest : Newest) → (0 < newest_rank chip p → rank_for p (Written bytes spare) < newest_rank chip p) → (rank_for p (Written bytes spare) ≤ newest_rank chip p)
      → IsNoted chip p newest → IsNoted after p newest
  noted-same p newest below few at = record {
    rank = at.rank ∙ sym (ranks p ∙ omega (arith, few));
    once = λ single m n at_m at_n. at.once single m n (is-was p below few m at_m) (is-was p below few n at_n);
    twice = λ double. let two : IsTwice chip p = at.twice double in record {
      one = two.one;
      other = two.other;
      apart = two.apart;
      at_one = was-is p few two.one two.at_one;
      at_other = was-is p few two.other two.at_other;
    };
  }

  -- the new page's own place
  noted-own : (newest : Newest) → IsNoted chip place newest → IsNoted after place (noted newest rank)
  noted-own newest at =
      elim (nat_lt rank newest.rank)
      as (λ t. (nat_lt rank newest.rank ≡ t) → IsNoted after place (cond t newest (record { rank = rank; doubled = nat_eq rank newest.rank }))) [
        | true ↦ λ older.
            let less : rank < newest_rank chip place = omega (arith, ltb-true rank newest.rank older, at.rank) in
            noted-same place newest (λ _. omega (arith, rank-own, less)) (omega (arith, rank-own, less)) at
        | false ↦ λ newer.
            let more : newest_rank chip place ≤ rank = omega (arith, ltb-false rank newest.rank newer, at.rank) in
            let now : newest_rank after place ≡ rank = ranks place ∙ omega (arith, rank-own, more) in
            let new : IsNewest after place page = (omega (arith, now), ap (rank_for place) new-at ∙ rank-own ∙ sym now) in
            record {
              rank = sym now;
              once = λ single m n at_m at_n.
                  let apart : rank ≢ newest.rank = eqb-false rank newest.rank single in
                  only (omega (arith, more, apart, at.rank)) m at_m ∙ sym (only (omega (arith, more, apart, at.rank)) n at_n);
              twice = λ double.
                  let same : rank ≡ newest_rank chip place = eqb-true rank newest.rank double ∙ at.rank in
                  another same new;
            }
      ] refl
    where
      only : newest_rank chip place < rank → (m : ℕ) → IsNewest after place m → m ≡ page
      only less m at_m =
          elim (cases_eq m page) [
            | inl here ↦ here
            | inr apart ↦
                let same : rank_for place (page_at after m) ≡ rank_for place (page_at chip m) = ap (rank_for place) (same-at m apart) in
                absurd (omega (arith, same, at_m.1, ranks place, rank-own, less, most place m))
          ]

      another : rank ≡ newest_rank chip place → IsNewest after place page → IsTwice after place
      another same new =
          elim (current chip place)
          as (λ o. (current chip place ≡ o) → IsTwice after place) [
            | None ↦ λ none. absurd (omega (arith, same, current-none chip place none))
            | Some i ↦ λ is.
                record {
                  one = i;
                  other = page;
                  apart = λ e. current-written chip place i is (ap (page_at chip) e ∙ erased);
                  at_one = was-is place (omega (arith, rank-own, same)) i (current-newest chip place i is);
                  at_other = new;
                }
          ] refl

  pub noted-after : (luns units : ℕ) (newest : List Newest) → length newest ≡ luns * units → IsPlace luns units place
      → ((p : Place) → IsPlace luns units p → IsNoted chip p (get_or newest (index_of units p) nothing_noted)) → (p : Place) → IsPlace luns units p
      → IsNoted after p (get_or (set newest (index_of units place) (noted (get_or newest (index_of units place) nothing_noted) rank)) (index_of units p) nothing_noted)
  noted-after luns units newest size in_units each p in_p =
      let key = index_of units place in
      let new : Newest = noted (get_or newest key nothing_noted) rank in
      elim (cases_place place p) [
        | inl same ↦
            let P : Place → Type 0 = λ q. IsNoted after q (get_or (set newest key new) (index_of units q) nothing_noted) in
            subst P same (subst (IsNoted after place) (sym (get_or-set_same newest key new nothing_noted (rw size (index_of-inside luns units place in_units))))
            (noted-own (get_or newest key nothing_noted) (each place in_units)))
        | inr apart ↦
            let none : rank_for p (Written bytes spare) ≡ 0 = rank-other p apart in
            subst (IsNoted after p) (sym (get_or-set_other newest key (index_of units p) new nothing_noted (λ e. apart (index-apart luns units place p in_units in_p (sym e)))))
            (noted-same p (get_or newest (index_of units p) nothing_noted) (λ above. omega (arith, none, above)) (omega (arith, none)) (each p in_p))
      ]

  -- the map and the valid pages, where the new page is not as new
  current-same : rank < newest_rank chip place → (p : Place) → current after p ≡ current chip p
  current-same older p =
      elim (cases_place place p) [
        | inl same ↦ subst (λ q. current after q ≡ current chip q) same (current-older older)
        | inr apart ↦ others p apart
      ]

  has-same : rank < newest_rank chip place → (n : ℕ) (p : Page) → has_current after n p ≡ has_current chip n p
  has-same older n Erased = refl
  has-same older n (Written b s) = ap (λ o. option_map_or (nat_eq n) o false) (current-same older (place_of s))

  valid-older : rank < newest_rank chip place → (n : ℕ) → is_valid_page after n ≡ is_valid_page chip n
  valid-older older n =
      elim (cases_eq n page) [
        | inr apart ↦ ap (has_current after n) (same-at n apart) ∙ has-same older n (page_at chip n)
        | inl here ↦
            ap (is_valid_page after) here ∙ ap (has_current after page) new-at
            ∙ ap (λ o. option_map_or (nat_eq page) o false) (current-older older)
            ∙ tells_not page (current chip place) (λ is. current-written chip place page is erased)
            ∙ sym (ap (is_valid_page chip) here ∙ ap (has_current chip page) erased)
      ]

  module _ (index : Index) (at : IsMapped chip index) where
    pub mapped-older : rank < newest_rank chip place → (next : ℕ) → next ≡ max index.next_seq rank
        → IsMapped after (record { luns = index.luns; units = index.units; map = index.map; validity = index.validity; collector = index.collector; next_seq = next })
    mapped-older older next is = record {
      mapped = λ p in_p. at.mapped p in_p ∙ sym (current-same older p);
      valid = λ n. at.valid n ∙ sym (valid-older older n);
      numbered = is ∙ ap (λ k. max k rank) at.numbered ∙ sym numbered-after;
    }

    pub mapped-newer : length index.map.pages ≡ index.luns * index.units → length index.validity.valid ≡ length chip → IsPlace index.luns index.units place → newest_rank chip place ≤ rank
        → (next lookups : ℕ) → next ≡ max index.next_seq rank → IsMapped after (record {
          luns = index.luns;
          units = index.units;
          map = record { pages = set index.map.pages (index_of index.units place) (Some page); page_count = index.map.page_count; lookups = lookups };
          validity = record { geometry = index.validity.geometry; valid = flags_after index.validity.valid page (current chip place) };
          collector = index.collector;
          next_seq = next;
        })
    mapped-newer size whole in_units newer next lookups is =
        let now : current after place ≡ Some page = current-newer newer in
        record {
          mapped = mapped-set index.luns index.units chip after index.map.pages place page size at.mapped in_units now others;
          valid = valid-programmed chip index.validity.valid page bytes spare whole at.valid inside erased now;
          numbered = is ∙ ap (λ k. max k rank) at.numbered ∙ sym numbered-after;
        }

-- Pages that are laid on a chip one after another.
use Rattle.std.proofs.Common.{◌≡◌, ◌≢◌, ◌⊎◌, ◌<◌, ◌≤◌, ℕ, zero, suc, List, [], ◌∷◌, ◌++◌, length, set, get_or, Option, Result, Ok, Err, refl, sym, ◌∙◌, ap, subst, arith, inl, inr}
use Rattle.std.proofs.lemmas.List.{get_or-set_other, get_or-set_same, get_or_push, length-set}
use Rattle.std.proofs.lemmas.Bool.{cases_lt}
use Rattle.std.proofs.KnownBytes.{Consumes-trans}
use Rattle.std.specs.Io.KnownBytes.{Consumes, IsAtEnd}
use Rattle.std.specs.Prelude.{slice_index}
use Rattle.flash_pages.specs.Chip.{Page, Erased, Written, page_at}
use Rattle.flash_pages.specs.declared.chip.Geometry.{Geometry}
use Rattle.flash_pages.specs.declared.chip.Spare.{Spare}
use Rattle.chip_image.specs.Image.{page_bytes}
use Rattle.chip_image.specs.Load.{AreLaid, IsLaidOn, IsOfVersion, IsWrittenPage}
use Rattle.chip_image.specs.Steps.{LaysPage, PutsPage}
use Rattle.chip_image.specs.Transfer.{TakesFewer, TakesWhole}
use Rattle.chip_image.specs.declared.version.Version.{Version}
use Rattle.chip_image.specs.declared.version.Version.TheVariants.{One, Two}
use Rattle.chip_image.specs.declared.fault.ImageFault.{ImageFault}
use Rattle.chip_image.specs.declared.fault.ImageFault.TheVariants.{Magic, Shape, PageKind, Cut, Taken, ReadFault, ChipFault}

beyond : (pages : List Page) → page_at pages (length pages) ≡ Erased
beyond [] = refl
beyond (x ∷ xs) = beyond xs

push_other : (pages : List Page) (p : Page) (n : ℕ) → n ≢ length pages → page_at (pages ++ p ∷ []) n ≡ page_at pages n
push_other [] p zero other = absurd (other refl)
push_other [] p (suc n) other = refl
push_other (x ∷ xs) p zero other = refl
push_other (x ∷ xs) p (suc n) other = push_other xs p n (λ same. other (ap suc same))

-- the page behind those that are laid is as it was
pub old_same : (old pages new : List Page) → AreLaid old pages new → page_at new (length pages) ≡ page_at old (length pages)
old_same old pages new laid = subst (λ (p : Page). IsLaidOn (page_at old (length pages)) p (page_at new (length pages))) (beyond pages) (laid.laid (length pages))

same_or_other : (n m : ℕ) → (n ≡ m) ⊎ (n ≢ m)
same_or_other zero zero = inl refl
same_or_other zero (suc m) = inr (λ is. absurd (omega (arith, is)))
same_or_other (suc n) zero = inr (λ is. absurd (omega (arith, is)))
same_or_other (suc n) (suc m) = elim (same_or_other n m) [ inl is ↦ inl (ap suc is) | inr not ↦ inr (λ is. not (omega (arith, is))) ]

pub laid_none : (old : List Page) → AreLaid old [] old
laid_none old = record { count = refl; laid = λ n. refl }

pub laid_erased : (old pages new : List Page) → AreLaid old pages new → AreLaid old (pages ++ Erased ∷ []) new
laid_erased old pages new laid = record {
  count = laid.count;
  laid = λ n. elim (same_or_other n (length pages)) [
    | inl is ↦ subst (λ (p : Page). IsLaidOn (page_at old n) p (page_at new n)) (sym (get_or_push pages Erased Erased n (sym is)))
        (subst (λ (m : ℕ). page_at new m ≡ page_at old m) (sym is) (old_same old pages new laid))
    | inr not ↦ subst (λ (p : Page). IsLaidOn (page_at old n) p (page_at new n)) (sym (push_other pages Erased n not)) (laid.laid n)
  ];
}

pub laid_written : (old pages new : List Page) (block : List ℕ) (spare : Spare) → AreLaid old pages new → length pages < length new → page_at new (length pages) ≡ Erased
    → AreLaid old (pages ++ Written block spare ∷ []) (set new (length pages) (Written block spare))
laid_written old pages new block spare laid below free = record {
  count = length-set new (length pages) w ∙ laid.count;
  laid = λ n. elim (same_or_other n (length pages)) [
    | inl is ↦ subst (λ (m : ℕ). IsLaidOn (page_at old m) (page_at (pages ++ w ∷ []) m) (page_at (set new (length pages) w) m)) (sym is)
        (subst (λ (p : Page). IsLaidOn (page_at old (length pages)) p (page_at (set new (length pages) w) (length pages))) (sym (get_or_push pages w Erased (length pages) refl))
        (sym (old_same old pages new laid) ∙ free, get_or-set_same new (length pages) w Erased below))
    | inr not ↦ subst (λ (p : Page). IsLaidOn (page_at old n) p (page_at (set new (length pages) w) n)) (sym (push_other pages w n not))
        (subst (λ (p : Page). IsLaidOn (page_at old n) (page_at pages n) p) (sym (get_or-set_other new (length pages) n w Erased not)) (laid.laid n))
  ];
}
  where
    w : Page
    w = Written block spare

pub erased_told : (version : Version) → IsOfVersion version Erased
erased_told One = tt
erased_told Two = tt

pub one_byte : (xs : List ℕ) → length xs ≡ 1 → xs ≡ slice_index xs 0 ∷ []
one_byte [] is = absurd (omega (arith, is))
one_byte (x ∷ []) is = refl
one_byte (x ∷ y ∷ xs) is = absurd (omega (arith, is))

-- the first byte of a page didn't come
pub no_kind : (geometry : Geometry) (version : Version) (old pages new : List Page) (left left_now : Option (List ℕ)) (bytes : List ℕ) (fault : ImageFault)
    → length bytes ≡ 1 → AreLaid old pages new → TakesWhole left left_now bytes (Err fault) → LaysPage geometry version old pages new left left_now (Err fault)
no_kind geometry version old pages new left left_now bytes Cut one laid (few, end) = by_bytes few.bytes few.fewer few.taken
  where
    by_bytes : (b : List ℕ) → length b < length bytes → Consumes left left_now b → LaysPage geometry version old pages new left left_now (Err Cut)
    by_bytes [] fewer taken = ([], taken, laid, (tt, end))
    by_bytes (x ∷ xs) fewer taken = absurd (omega (arith, fewer, one))
no_kind geometry version old pages new left left_now bytes ReadFault one laid few = by_bytes few.bytes few.fewer few.taken
  where
    by_bytes : (b : List ℕ) → length b < length bytes → Consumes left left_now b → LaysPage geometry version old pages new left left_now (Err ReadFault)
    by_bytes [] fewer taken = ([], taken, laid, tt)
    by_bytes (x ∷ xs) fewer taken = absurd (omega (arith, fewer, one))
no_kind geometry version old pages new left left_now bytes Magic one laid none = absurd none
no_kind geometry version old pages new left left_now bytes Shape one laid none = absurd none
no_kind geometry version old pages new left left_now bytes PageKind one laid none = absurd none
no_kind geometry version old pages new left left_now bytes Taken one laid none = absurd none
no_kind geometry version old pages new left left_now bytes ChipFault one laid none = absurd none

-- an erased page
pub page_erased : (geometry : Geometry) (version : Version) (old pages new : List Page) (left left_now : Option (List ℕ)) (bytes : List ℕ) (r : Unit {0})
    → length bytes ≡ 1 → slice_index bytes 0 ≡ 0 → AreLaid old pages new → Consumes left left_now bytes → LaysPage geometry version old pages new left left_now (Ok r)
page_erased geometry version old pages new left left_now bytes r one kind laid taken =
    (Erased, subst (λ (b : List ℕ). Consumes left left_now b) (one_byte bytes one ∙ ap (λ (k : ℕ). k ∷ []) kind) taken, erased_told version, laid_erased old pages new laid)

-- a page of no kind
pub page_of_no_kind : (geometry : Geometry) (version : Version) (old pages new : List Page) (left left_now : Option (List ℕ)) (bytes : List ℕ)
    → length bytes ≡ 1 → slice_index bytes 0 ≢ 0 → slice_index bytes 0 ≢ 1 → AreLaid old pages new → Consumes left left_now bytes
    → LaysPage geometry version old pages new left left_now (Err PageKind)
page_of_no_kind geometry version old pages new left left_now bytes one no_zero no_one laid taken =
    (slice_index bytes 0 ∷ [], subst (λ (b : List ℕ). Consumes left left_now b) (one_byte bytes one) taken, laid, (no_zero, no_one))

-- a written page
pub page_put : (geometry : Geometry) (version : Version) (old pages now new : List Page) (left mid left_now : Option (List ℕ)) (bytes : List ℕ) (n : ℕ) (r : Result (Unit {0}) ImageFault)
    → length bytes ≡ 1 → slice_index bytes 0 ≡ 1 → length pages ≡ n → AreLaid old pages now → n < length now → Consumes left mid bytes → PutsPage version n now new mid left_now r
    → LaysPage geometry version old pages new left left_now r
page_put geometry version old pages now new left mid left_now bytes n r one kind is laid below taken puts =
    by_result r (subst (λ (m : ℕ). PutsPage version m now new mid left_now r) (sym is) puts)
  where
    first : Consumes left mid (1 ∷ [])
    first = subst (λ (b : List ℕ). Consumes left mid b) (one_byte bytes one ∙ ap (λ (k : ℕ). k ∷ []) kind) taken

    within : length pages < length now
    within = omega (arith, is, below)

    still : new ≡ now → AreLaid old pages new
    still same = subst (λ (c : List Page). AreLaid old pages c) (sym same) laid

    by_result : (r : Result (Unit {0}) ImageFault) → PutsPage version (length pages) now new mid left_now r → LaysPage geometry version old pages new left left_now r
    by_result (Ok u) (block, spare, rest, told, put) = (
      Written block spare,
      Consumes-trans _ _ _ _ _ first rest,
      told,
      subst (λ (c : List Page). AreLaid old (pages ++ Written block spare ∷ []) c) (sym put.1) (laid_written old pages now block spare laid within put.0),
    )
    by_result (Err Cut) (few, end, same) = (1 ∷ few.bytes, Consumes-trans _ _ _ _ _ first few.taken, still same, ((refl, few.fewer), end))
    by_result (Err ReadFault) (few, same) = (1 ∷ few.bytes, Consumes-trans _ _ _ _ _ first few.taken, still same, (refl, few.fewer))
    by_result (Err Taken) (block, spare, rest, told, put) = (
      page_bytes version (Written block spare),
      Consumes-trans _ _ _ _ _ first rest,
      still put.1,
      (record { block = block; spare = spare; are = refl }, λ free. put.0 (old_same old pages now laid ∙ free)),
    )
    by_result (Err ChipFault) (block, spare, rest, told, same) =
        (page_bytes version (Written block spare), Consumes-trans _ _ _ _ _ first rest, still same, record { block = block; spare = spare; are = refl })
    by_result (Err Magic) (block, spare, rest, told, none) = absurd none
    by_result (Err Shape) (block, spare, rest, told, none) = absurd none
    by_result (Err PageKind) (block, spare, rest, told, none) = absurd none

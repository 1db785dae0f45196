-- Images that are loaded onto an erased chip.
use Rattle.std.proofs.Common.{◌≡◌, ◌≢◌, ◌⊎◌, ◌*◌, ◌<◌, ◌≤◌, ℕ, zero, suc, List, [], ◌∷◌, ◌++◌, length, Option, Result, None, Some, Ok, Err, MatchResult, refl, sym, ◌∙◌, ap, subst, arith, inl, inr}
use Rattle.std.proofs.lemmas.List.{append-nil, ext_get_or, get_or_default, length-append}
use Rattle.std.specs.Io.KnownBytes.{Consumes, IsAtEnd}
use Rattle.std.specs.Prelude.{All}
use Rattle.flash_pages.specs.Chip.{Page, Erased, Written, page_at}
use Rattle.flash_pages.specs.declared.chip.Geometry.{Geometry}
use Rattle.chip_image.specs.Image.{image_of, magic}
use Rattle.chip_image.specs.Laws.{Fits}
use Rattle.chip_image.specs.Load.{AreLaid, InMagic, InPage, InShape, IsCause, IsLaidOn, IsOfVersion, IsReadTo, IsWhole, LacksSome, Loads, Place}
use Rattle.chip_image.specs.declared.version.Version.{Version}
use Rattle.chip_image.specs.declared.version.Version.TheVariants.{One, Two}
use Rattle.chip_image.specs.declared.fault.ImageFault.{ImageFault}
use Rattle.chip_image.specs.declared.fault.ImageFault.TheVariants.{Magic, Shape, PageKind, Cut, Taken, ReadFault, ChipFault}
use Rattle.chip_image.proofs.OneChip.{image_same}
use Rattle.image_laws.specs.Pages.{AreErased, IsWholePage}
use Rattle.image_laws.proofs.Fronts.{BeginsWithPage, bodies, image_long, kind_of, magic_len, next_page, pages_first, shape_first, some_byte, word_first}

erased_at : (old : List Page) → AreErased old → (n : ℕ) → page_at old n ≡ Erased
erased_at [] erased n = refl
erased_at (page ∷ old) erased zero = erased 0 Erased (omega arith)
erased_at (page ∷ old) erased (suc n) = erased_at old (λ i d below. erased (suc i) d (omega (arith, below))) n

page_laid : (old page new : Page) → old ≡ Erased → IsLaidOn old page new → new ≡ page
page_laid old Erased new erased same = same ∙ erased
page_laid old (Written block spare) new erased laid = laid.1

-- pages that are laid on an erased chip of as many are the chip then
laid_same : (old pages new : List Page) → AreErased old → length pages ≡ length old → AreLaid old pages new → new ≡ pages
laid_same old pages new erased as_many laid =
    ext_get_or Erased new pages (laid.count ∙ sym as_many) (λ n below. page_laid (page_at old n) (page_at pages n) (page_at new n) (erased_at old erased n) (laid.laid n))

pub taken_is_the_chip : (geometry : Geometry) (old new : List Page) (left left_now : Option (List ℕ)) → AreErased old → length old ≡ geometry.blocks * geometry.pages
    → Loads geometry old new left left_now (Ok tt) → (version : Version) × Consumes left left_now (image_of version geometry new)
taken_is_the_chip geometry old new left left_now erased size (version, pages, whole) =
    (version, subst (λ (l : List Page). Consumes left left_now (image_of version geometry l)) (sym (laid_same old pages new erased (whole.count ∙ sym size) whole.laid)) whole.taken)

whole_laid : (old page new : Page) → IsLaidOn old page new → IsWholePage new → IsWholePage page
whole_laid old Erased new laid whole = tt
whole_laid old (Written block spare) new laid whole = subst IsWholePage laid.1 whole

told_whole : (version : Version) (page : Page) → IsWholePage page → IsOfVersion version page → Fits version page
told_whole version Erased whole told = tt
told_whole version (Written block spare) (len, lba, seq) told = (len, lba, seq, told)

-- pages that are laid on a chip fit it
laid_fit : (version : Version) (old pages new : List Page) → AreLaid old pages new → length pages ≤ length new → All IsWholePage new → All (IsOfVersion version) pages → All (Fits version) pages
laid_fit version old pages new laid few whole told i d below =
    subst (Fits version) (get_or_default pages i Erased d below)
    (told_whole version (page_at pages i) (whole_laid (page_at old i) (page_at pages i) (page_at new i) (laid.laid i) (whole i Erased (omega (arith, below, few)))) (told i Erased below))

-- bytes that begin with an image are taken, up to some place
taken_to : (xs bytes : List ℕ) (left_now : Option (List ℕ)) → Consumes (Some xs) left_now bytes → (after : List ℕ) × (left_now ≡ Some after) × (xs ≡ bytes ++ after)
taken_to xs bytes None taken = absurd taken
taken_to xs bytes (Some after) taken = (after, refl, taken)

-- at the end the bytes are all
taken_all : (xs bytes : List ℕ) (left_now : Option (List ℕ)) → Consumes (Some xs) left_now bytes → IsAtEnd left_now → xs ≡ bytes
taken_all xs bytes None taken end = absurd taken
taken_all xs bytes (Some after) taken end = taken ∙ ap (λ (l : List ℕ). bytes ++ l) end ∙ append-nil bytes

-- a whole image is that of the chip
pub whole_image : (version v : Version) (geometry : Geometry) (pages others old new : List Page) (rest : List ℕ) (left_now : Option (List ℕ))
    → length pages ≡ geometry.blocks * geometry.pages → All (Fits version) pages → length old ≡ length pages → AreErased old → All IsWholePage new
    → IsWhole geometry old new (Some (image_of version geometry pages ++ rest)) left_now v others → (new ≡ pages) × (left_now ≡ Some rest)
whole_image version v geometry pages others old new rest left_now size fits as_many erased whole load =
    let (after, now, e) = taken_to _ (image_of v geometry others) left_now load.taken in
    let alike : length others ≡ length pages = load.count ∙ sym size in
    let is_new : new ≡ others = laid_same old others new erased (alike ∙ sym as_many) load.laid in
    let fit : All (Fits v) others = laid_fit v old others new load.laid (omega (arith, ap (λ (l : List Page). length l) is_new)) whole load.told in
    let same : version ≡ v = (pages_first version v geometry pages others rest [] after (e ∙ ap (λ (l : List ℕ). l ++ after) (sym (append-nil (image_of v geometry others))))).0 in
    let (chip, left) = image_same version geometry pages others rest after (sym alike) fits (subst (λ (w : Version). All (Fits w) others) (sym same) fit)
    (subst (λ (w : Version). image_of version geometry pages ++ rest ≡ image_of w geometry others ++ after) (sym same) e) in
    (is_new ∙ sym chip, now ∙ ap (λ (l : List ℕ). Some l) (sym left))

-- the bytes behind the pages before a place begin with a page
page_behind : (version v : Version) (geometry : Geometry) (pages others old new : List Page) (rest bytes after : List ℕ) (left_now : Option (List ℕ))
    → length pages ≡ geometry.blocks * geometry.pages → All (Fits version) pages → length old ≡ length pages → All IsWholePage new
    → IsReadTo geometry old new (Some (image_of version geometry pages ++ rest)) left_now (InPage v others bytes)
    → image_of version geometry pages ++ rest ≡ (image_of v geometry others ++ bytes) ++ after → BeginsWithPage v (bytes ++ after)
page_behind version v geometry pages others old new rest bytes after left_now size fits as_many whole read e =
    let (same, behind) = pages_first version v geometry pages others rest bytes after e in
    let fewer : length others < length pages = omega (arith, read.few, size) in
    let fit : All (Fits v) others = laid_fit v old others new read.laid (omega (arith, read.laid.count, as_many, fewer)) whole read.told in
    next_page v geometry pages others rest (bytes ++ after) fewer (subst (λ (w : Version). All (Fits w) pages) same fits) fit
    (subst (λ (w : Version). bodies w pages ++ rest ≡ bodies v others ++ (bytes ++ after)) same behind)

-- a page of these bytes isn't cut
not_cut : (v : Version) (bytes : List ℕ) → LacksSome v bytes → BeginsWithPage v bytes → ⊥
not_cut v [] lacks begins = some_byte v begins
not_cut v (kind ∷ bytes) (one, fewer) begins =
    let (_, enough) = kind_of v kind bytes begins (λ none. omega (arith, one, none)) in
    omega (arith, fewer, enough)

pub only_failures : (version : Version) (geometry : Geometry) (pages old new : List Page) (rest : List ℕ) (left_now : Option (List ℕ)) (fault : ImageFault) (place : Place)
    → length pages ≡ geometry.blocks * geometry.pages → All (Fits version) pages → length old ≡ length pages → AreErased old → All IsWholePage new
    → IsReadTo geometry old new (Some (image_of version geometry pages ++ rest)) left_now place → IsCause fault geometry old left_now place → (fault ≡ ReadFault) ⊎ (fault ≡ ChipFault)
only_failures version geometry pages old new rest left_now fault place size fits as_many erased whole read cause = by_fault fault place read cause
  where
    xs : List ℕ
    xs = image_of version geometry pages ++ rest

    no_word : (bytes : List ℕ) → length bytes ≡ 8 → bytes ≢ magic One → bytes ≢ magic Two → magic version ≡ bytes → ⊥
    no_word bytes eight no_one no_two is = elim version as (λ v. magic v ≡ bytes → ⊥) [ One ↦ (λ e. no_one (sym e)) | Two ↦ (λ e. no_two (sym e)) ] is

    by_fault : (fault : ImageFault) (place : Place) → IsReadTo geometry old new (Some (image_of version geometry pages ++ rest)) left_now place → IsCause fault geometry old left_now place
        → (fault ≡ ReadFault) ⊎ (fault ≡ ChipFault)
    by_fault ReadFault place read cause = inl refl
    by_fault ChipFault place read cause = inr refl
    by_fault Magic (InMagic bytes) read (eight, no_one, no_two) =
        let (after, now, e) = taken_to _ bytes left_now read.taken in
        absurd (no_word bytes eight no_one no_two (word_first version geometry pages rest bytes after eight e).0)
    by_fault Magic (InShape v bytes) read cause = absurd cause
    by_fault Magic (InPage v others bytes) read cause = absurd cause
    by_fault Shape (InMagic bytes) read cause = absurd cause
    by_fault Shape (InShape v bytes) read (eight, other) =
        let (after, now, e) = taken_to _ (magic v ++ bytes) left_now read.taken in
        absurd (other (shape_first version v geometry pages rest bytes after eight e))
    by_fault Shape (InPage v others bytes) read cause = absurd cause
    by_fault PageKind (InMagic bytes) read cause = absurd cause
    by_fault PageKind (InShape v bytes) read cause = absurd cause
    by_fault PageKind (InPage v others []) read cause = absurd cause
    by_fault PageKind (InPage v others (kind ∷ [])) read (no_zero, no_one) =
        let (after, now, e) = taken_to _ (image_of v geometry others ++ kind ∷ []) left_now read.taken in
        let begins = page_behind version v geometry pages others old new rest (kind ∷ []) after left_now size fits as_many whole read e in
        absurd (no_one (kind_of v kind after begins no_zero).0)
    by_fault PageKind (InPage v others (kind ∷ more ∷ bytes)) read cause = absurd cause
    by_fault Taken (InMagic bytes) read cause = absurd cause
    by_fault Taken (InShape v bytes) read cause = absurd cause
    by_fault Taken (InPage v others bytes) read (page, taken) = absurd (taken (erased_at old erased (length others)))
    by_fault Cut (InMagic bytes) read (within, end) =
        let all = ap (λ (l : List ℕ). length l) (taken_all _ bytes left_now read.taken end) in
        absurd (omega (arith, all, within, image_long version geometry pages rest))
    by_fault Cut (InShape v bytes) read (within, end) =
        let all = ap (λ (l : List ℕ). length l) (taken_all _ (magic v ++ bytes) left_now read.taken end) in
        absurd (omega (arith, all, within, length-append (magic v) bytes, magic_len v, image_long version geometry pages rest))
    by_fault Cut (InPage v others bytes) read (lacks, end) =
        let e = taken_all _ (image_of v geometry others ++ bytes) left_now read.taken end in
        let begins = page_behind version v geometry pages others old new rest bytes [] left_now size fits as_many whole read (e ∙ sym (append-nil (image_of v geometry others ++ bytes))) in
        absurd (not_cut v bytes lacks (subst (BeginsWithPage v) (append-nil bytes) begins))

pub image_is_taken : (version : Version) (geometry : Geometry) (pages old new : List Page) (rest : List ℕ) (left_now : Option (List ℕ)) (result : Result (Unit {0}) ImageFault)
    → length pages ≡ geometry.blocks * geometry.pages → All (Fits version) pages → length old ≡ length pages → AreErased old → All IsWholePage new
    → Loads geometry old new (Some (image_of version geometry pages ++ rest)) left_now result
    → MatchResult result (λ _. (new ≡ pages) × (left_now ≡ Some rest)) (λ fault. (fault ≡ ReadFault) ⊎ (fault ≡ ChipFault))
image_is_taken version geometry pages old new rest left_now (Ok _) size fits as_many erased whole (v, others, load) =
    whole_image version v geometry pages others old new rest left_now size fits as_many erased whole load
image_is_taken version geometry pages old new rest left_now (Err fault) size fits as_many erased whole (place, read, cause) =
    only_failures version geometry pages old new rest left_now fault place size fits as_many erased whole read cause

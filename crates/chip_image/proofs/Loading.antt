-- An image that is read page after page.
use Rattle.std.proofs.Common.{◌≡◌, ◌+◌, ◌*◌, ◌<◌, ◌≤◌, ℕ, List, [], ◌∷◌, ◌++◌, length, Option, Result, Ok, Err, refl, sym, ◌∙◌, ap, subst, arith}
use Rattle.std.proofs.lemmas.List.{append-nil, flat_map_more, length-append}
use Rattle.std.proofs.lemmas.List.Elements.{All-push}
use Rattle.std.proofs.KnownBytes.{Consumes-trans}
use Rattle.std.specs.Io.KnownBytes.{Consumes}
use Rattle.std.specs.List.{flat_map}
use Rattle.std.specs.Prelude.{All}
use Rattle.flash_pages.specs.Chip.{Page}
use Rattle.flash_pages.specs.declared.chip.Geometry.{Geometry}
use Rattle.chip_image.specs.Image.{image_of, magic, page_bytes, shape_bytes}
use Rattle.chip_image.specs.Load.{AreLaid, InMagic, InPage, InShape, IsOfVersion, Loads}
use Rattle.chip_image.specs.Steps.{LaysPage, ReadsShape, ReadsVersion}
use Rattle.chip_image.specs.declared.version.Version.{Version}
use Rattle.chip_image.specs.declared.fault.ImageFault.{ImageFault}
use Rattle.chip_image.specs.declared.fault.ImageFault.TheVariants.{ChipFault}
use Rattle.chip_image.specs.Transfer.{RoseOnlyAt}
use Rattle.chip_image.proofs.Laying.{laid_none}

-- so many pages of an image were read, and are laid on the chip
pub record IsLoadedTo (geometry : Geometry) (old new : List Page) (left left_now : Option (List ℕ)) (version : Version) (n : ℕ) : Type 0 where
  pub pages : List Page
  pub count : length pages ≡ n
  pub taken : Consumes left left_now (image_of version geometry pages)
  pub laid : AreLaid old pages new
  pub told : All (IsOfVersion version) pages

pub begun : (geometry : Geometry) (old : List Page) (left mid left_now : Option (List ℕ)) (version : Version)
    → Consumes left mid (magic version) → Consumes mid left_now (shape_bytes geometry) → IsLoadedTo geometry old old left left_now version 0
begun geometry old left mid left_now version first then = record {
  pages = [];
  count = refl;
  taken = subst (λ (l : List ℕ). Consumes left left_now l) (sym (append-nil (magic version ++ shape_bytes geometry))) (Consumes-trans _ _ _ _ _ first then);
  laid = laid_none old;
  told = λ i d below. absurd (omega (arith, below));
}

image_more : (version : Version) (geometry : Geometry) (pages : List Page) (page : Page) → image_of version geometry pages ++ page_bytes version page ≡ image_of version geometry (pages ++ page ∷ [])
image_more version geometry pages page =
    flat_map_more (page_bytes version) (magic version ++ shape_bytes geometry) pages page

pub one_more : (geometry : Geometry) (old now new : List Page) (left mid left_now : Option (List ℕ)) (version : Version) (n : ℕ) (r : Unit {0})
    → (to : IsLoadedTo geometry old now left mid version n) → LaysPage geometry version old to.pages new mid left_now (Ok r) → IsLoadedTo geometry old new left left_now version (n + 1)
one_more geometry old now new left mid left_now version n r to (page, taken, told, laid) = record {
  pages = to.pages ++ page ∷ [];
  count = length-append to.pages (page ∷ []) ∙ ap (λ (m : ℕ). m + 1) to.count;
  taken = subst (λ (l : List ℕ). Consumes left left_now l) (image_more version geometry to.pages page) (Consumes-trans _ _ _ _ _ to.taken taken);
  laid = laid;
  told = All-push (IsOfVersion version) to.pages page to.told told;
}

pub version_fault : (geometry : Geometry) (old : List Page) (left left_now : Option (List ℕ)) (fault : ImageFault) → 0 < geometry.blocks * geometry.pages
    → ReadsVersion left left_now (Err fault) → Loads geometry old old left left_now (Err fault)
version_fault geometry old left left_now fault some (bytes, taken, cause) =
    (InMagic bytes, record { taken = taken; laid = laid_none old; few = some; told = tt }, cause geometry old)

pub shape_fault : (geometry : Geometry) (old : List Page) (left mid left_now : Option (List ℕ)) (version : Version) (fault : ImageFault) → 0 < geometry.blocks * geometry.pages
    → Consumes left mid (magic version) → ReadsShape geometry version mid left_now (Err fault) → Loads geometry old old left left_now (Err fault)
shape_fault geometry old left mid left_now version fault some first (bytes, taken, cause) =
    (InShape version bytes, record { taken = Consumes-trans _ _ _ _ _ first taken; laid = laid_none old; few = some; told = tt }, cause old)

pub page_fault : (geometry : Geometry) (old now new : List Page) (left mid left_now : Option (List ℕ)) (version : Version) (n : ℕ) (fault : ImageFault)
    → (to : IsLoadedTo geometry old now left mid version n) → n < geometry.blocks * geometry.pages → LaysPage geometry version old to.pages new mid left_now (Err fault)
    → Loads geometry old new left left_now (Err fault)
page_fault geometry old now new left mid left_now version n fault to below (bytes, taken, laid, cause) =
    (InPage version to.pages bytes, record { taken = Consumes-trans _ _ _ _ _ to.taken taken; laid = laid; few = omega (arith, to.count, below); told = to.told }, cause)

pub all_loaded : (geometry : Geometry) (old new : List Page) (left left_now : Option (List ℕ)) (version : Version) (n : ℕ) (r : Unit {0})
    → IsLoadedTo geometry old new left left_now version n → n ≡ geometry.blocks * geometry.pages → Loads geometry old new left left_now (Ok r)
all_loaded geometry old new left left_now version n r to whole =
    (version, to.pages, record { taken = to.taken; laid = to.laid; count = to.count ∙ whole; told = to.told })

-- no call of the chip fails before the pages
same_fault : {A : Type 0} (fault other : ImageFault) (r : Result A ImageFault) → r ≡ Err fault → r ≡ Err other → fault ≡ other
same_fault fault other r is too = cc

pub version_no_chip : {A : Type 0} (n : ℕ) (left left_now : Option (List ℕ)) (fault : ImageFault) (r : Result A ImageFault) → r ≡ Err fault → ReadsVersion left left_now (Err fault)
    → RoseOnlyAt n n ChipFault r
version_no_chip n left left_now fault r is reads = (λ too. absurd (none (subst (λ (f : ImageFault). ReadsVersion left left_now (Err f)) (same_fault fault ChipFault r is too) reads)), λ _. refl)
  where
    none : ReadsVersion left left_now (Err ChipFault) → ⊥
    none (bytes, taken, cause) = cause (record { blocks = 0; pages = 0 }) []

pub shape_no_chip : {A : Type 0} (n : ℕ) (geometry : Geometry) (version : Version) (left left_now : Option (List ℕ)) (fault : ImageFault) (r : Result A ImageFault) → r ≡ Err fault
    → ReadsShape geometry version left left_now (Err fault) → RoseOnlyAt n n ChipFault r
shape_no_chip n geometry version left left_now fault r is reads =
    (λ too. absurd (none (subst (λ (f : ImageFault). ReadsShape geometry version left left_now (Err f)) (same_fault fault ChipFault r is too) reads)), λ _. refl)
  where
    none : ReadsShape geometry version left left_now (Err ChipFault) → ⊥
    none (bytes, taken, cause) = cause []

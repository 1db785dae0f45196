-- What bytes show that begin with an image.
use Rattle.std.proofs.Common.{◌≡◌, ◌≢◌, ◌+◌, ◌<◌, ◌≤◌, ℕ, zero, suc, List, [], ◌∷◌, ◌++◌, length, slice_index, refl, sym, ◌∙◌, ap, ap₂, subst, arith}
use Rattle.std.proofs.lemmas.List.{append_assoc, append-nil, length-append}
use Rattle.std.specs.List.{flat_map}
use Rattle.std.specs.Prelude.{All}
use Rattle.byteorder.specs.Endian.{big_bytes}
use Rattle.byteorder.specs.Numbers.{length-bytes_high_first}
use Rattle.flash_pages.specs.Chip.{Page, Erased, Written}
use Rattle.flash_pages.specs.declared.chip.Geometry.{Geometry}
use Rattle.flash_pages.specs.declared.chip.Spare.{Spare}
use Rattle.chip_image.specs.Image.{image_of, magic, page_bytes, shape_bytes, spare_bytes}
use Rattle.chip_image.specs.Laws.{Fits}
use Rattle.chip_image.specs.Load.{page_room}
use Rattle.chip_image.specs.declared.version.Version.{Version}
use Rattle.chip_image.specs.declared.version.Version.TheVariants.{One, Two}
use Rattle.chip_image.proofs.OneChip.{image_same}

pub first_same : {A : Type 0} {x y : A} {xs ys : List A} → x ∷ xs ≡ y ∷ ys → x ≡ y
first_same e = cc

pub rest_same : {A : Type 0} {x y : A} {xs ys : List A} → x ∷ xs ≡ y ∷ ys → xs ≡ ys
rest_same e = cc

-- lists of one length in front of others
split : (xs ys cs bs : List ℕ) → length xs ≡ length ys → xs ++ cs ≡ ys ++ bs → (xs ≡ ys) × (cs ≡ bs)
split [] [] cs bs len e = (refl, e)
split [] (y ∷ ys) cs bs len e = absurd (omega (arith, len))
split (x ∷ xs) [] cs bs len e = absurd (omega (arith, len))
split (x ∷ xs) (y ∷ ys) cs bs len e =
    let more = split xs ys cs bs (omega (arith, len)) (rest_same e) in
    (ap₂ (λ (h : ℕ) (t : List ℕ). h ∷ t) (first_same e) more.0, more.1)

-- the bytes of all pages
abbrev pub bodies : Version → List Page → List ℕ
bodies version pages = flat_map (page_bytes version) pages

pub magic_len : (version : Version) → length (magic version) ≡ 8
magic_len One = refl
magic_len Two = refl

pub shape_len : (geometry : Geometry) → length (shape_bytes geometry) ≡ 8
shape_len geometry =
    length-append (big_bytes 4 geometry.blocks) (big_bytes 4 geometry.pages)
    ∙ ap₂ (λ (a b : ℕ). a + b) (length-bytes_high_first 4 geometry.blocks) (length-bytes_high_first 4 geometry.pages)

-- the magic words differ
version_same : (v w : Version) → magic v ≡ magic w → v ≡ w
version_same One One e = refl
version_same One Two e = let last = ap (λ (l : List ℕ). slice_index l 7) e in absurd (omega (arith, last))
version_same Two One e = let last = ap (λ (l : List ℕ). slice_index l 7) e in absurd (omega (arith, last))
version_same Two Two e = refl

image_parts : (version : Version) (geometry : Geometry) (pages : List Page) (rest : List ℕ)
    → image_of version geometry pages ++ rest ≡ magic version ++ (shape_bytes geometry ++ (bodies version pages ++ rest))
image_parts version geometry pages rest =
    append_assoc (magic version ++ shape_bytes geometry) (bodies version pages) rest ∙ append_assoc (magic version) (shape_bytes geometry) (bodies version pages ++ rest)

-- the first eight bytes of an image, and the next ones
pub word_first : (version : Version) (geometry : Geometry) (pages : List Page) (rest word after : List ℕ) → length word ≡ 8
    → image_of version geometry pages ++ rest ≡ word ++ after → (magic version ≡ word) × (shape_bytes geometry ++ (bodies version pages ++ rest) ≡ after)
word_first version geometry pages rest word after eight e =
    split (magic version) word (shape_bytes geometry ++ (bodies version pages ++ rest)) after (magic_len version ∙ sym eight) (sym (image_parts version geometry pages rest) ∙ e)

pub shape_first : (version v : Version) (geometry : Geometry) (pages : List Page) (rest shape after : List ℕ) → length shape ≡ 8
    → image_of version geometry pages ++ rest ≡ (magic v ++ shape) ++ after → shape ≡ shape_bytes geometry
shape_first version v geometry pages rest shape after eight e =
    let behind = (word_first version geometry pages rest (magic v) (shape ++ after) (magic_len v) (e ∙ append_assoc (magic v) shape after)).1 in
    sym (split (shape_bytes geometry) shape (bodies version pages ++ rest) after (shape_len geometry ∙ sym eight) behind).0

-- an image has sixteen bytes in front of its pages
pub image_long : (version : Version) (geometry : Geometry) (pages : List Page) (rest : List ℕ) → length (image_of version geometry pages ++ rest) ≡ 16 + length (bodies version pages ++ rest)
image_long version geometry pages rest =
    let behind = bodies version pages ++ rest in
    let all = ap (λ (l : List ℕ). length l) (image_parts version geometry pages rest) in
    let first = length-append (magic version) (shape_bytes geometry ++ behind) in
    let next = length-append (shape_bytes geometry) behind in
    omega (arith, all, first, next, magic_len version, shape_len geometry)

-- bytes that begin with an image, and with the image of some pages and more bytes
pub pages_first : (version v : Version) (geometry : Geometry) (pages others : List Page) (rest bytes after : List ℕ)
    → image_of version geometry pages ++ rest ≡ (image_of v geometry others ++ bytes) ++ after → (version ≡ v) × (bodies version pages ++ rest ≡ bodies v others ++ (bytes ++ after))
pages_first version v geometry pages others rest bytes after e =
    let behind = bodies v others ++ (bytes ++ after) in
    let parts = append_assoc (image_of v geometry others) bytes after ∙ image_parts v geometry others (bytes ++ after) in
    let (word, then) = word_first version geometry pages rest (magic v) (shape_bytes geometry ++ behind) (magic_len v) (e ∙ parts) in
    (version_same version v word, (split (shape_bytes geometry) (shape_bytes geometry) (bodies version pages ++ rest) behind refl then).1)

one_page : (version : Version) (page : Page) → Fits version page → All (Fits version) (page ∷ [])
one_page version page fits zero d below = fits
one_page version page fits (suc i) d below = absurd (omega (arith, below))

page_alone : (version : Version) (page : Page) (rest : List ℕ) → bodies version (page ∷ []) ++ rest ≡ page_bytes version page ++ rest
page_alone version page rest = ap (λ (l : List ℕ). l ++ rest) (append-nil (page_bytes version page))

-- the bytes of a page are those of one page only
page_same : (version : Version) (geometry : Geometry) (p q : Page) (xs ys : List ℕ) → Fits version p → Fits version q → page_bytes version p ++ xs ≡ page_bytes version q ++ ys
    → (p ≡ q) × (xs ≡ ys)
page_same version geometry p q xs ys fits too e =
    let same : image_of version geometry (p ∷ []) ++ xs ≡ image_of version geometry (q ∷ []) ++ ys =
    image_parts version geometry (p ∷ []) xs
    ∙ ap (λ (l : List ℕ). magic version ++ (shape_bytes geometry ++ l)) (page_alone version p xs ∙ e ∙ sym (page_alone version q ys))
    ∙ sym (image_parts version geometry (q ∷ []) ys) in
    let (one, rest) = image_same version geometry (p ∷ []) (q ∷ []) xs ys refl (one_page version p fits) (one_page version q too) same in
    (first_same one, rest)

-- bytes begin with those of a page
pub record BeginsWithPage (version : Version) (bytes : List ℕ) : Type 0 where
  pub page : Page
  pub behind : List ℕ
  pub fits : Fits version page
  pub are : page_bytes version page ++ behind ≡ bytes

-- bytes of pages behind those of fewer pages begin with the next page
pub next_page : (version : Version) (geometry : Geometry) (pages others : List Page) (rest after : List ℕ) → length others < length pages → All (Fits version) pages → All (Fits version) others
    → bodies version pages ++ rest ≡ bodies version others ++ after → BeginsWithPage version after
next_page version geometry [] others rest after fewer fits too e = absurd (omega (arith, fewer))
next_page version geometry (p ∷ pages) [] rest after fewer fits too e =
    record { page = p; behind = bodies version pages ++ rest; fits = fits 0 Erased (omega arith); are = sym (append_assoc (page_bytes version p) (bodies version pages) rest) ∙ e }
next_page version geometry (p ∷ pages) (q ∷ others) rest after fewer fits too e =
    let behind = (page_same version geometry p q (bodies version pages ++ rest) (bodies version others ++ after) (fits 0 Erased (omega arith)) (too 0 Erased (omega arith))
    (sym (append_assoc (page_bytes version p) (bodies version pages) rest) ∙ e ∙ append_assoc (page_bytes version q) (bodies version others) after)).1 in
    next_page version geometry pages others rest after (omega (arith, fewer)) (λ i d below. fits (suc i) d (omega (arith, below))) (λ i d below. too (suc i) d (omega (arith, below))) behind

spare_len : (version : Version) (spare : Spare) → length (spare_bytes version spare) + 4096 ≡ page_room version
spare_len One spare =
    let all = length-append (big_bytes 4 spare.lba) (big_bytes 8 spare.seq) in
    omega (arith, all, length-bytes_high_first 4 spare.lba, length-bytes_high_first 8 spare.seq)
spare_len Two spare =
    let all = length-append ((spare.lun ∷ []) ++ big_bytes 4 spare.lba) (big_bytes 8 spare.seq) in
    omega (arith, all, length-bytes_high_first 4 spare.lba, length-bytes_high_first 8 spare.seq)

room_is : (version : Version) (block behind : List ℕ) (spare : Spare) → length block ≡ 4096 → page_room version ≤ length ((spare_bytes version spare ++ block) ++ behind)
room_is version block behind spare len =
    let all = length-append (spare_bytes version spare ++ block) behind in
    let most = length-append (spare_bytes version spare) block in
    omega (arith, all, most, len, spare_len version spare)

-- the first byte of a page is 00h, or it is 01h and a whole page follows
pub kind_of : (version : Version) (kind : ℕ) (bytes : List ℕ) → BeginsWithPage version (kind ∷ bytes) → kind ≢ 0 → (kind ≡ 1) × (page_room version ≤ length bytes)
kind_of version kind bytes begins no_zero = by_page begins.page begins.fits begins.are
  where
    by_page : (page : Page) → Fits version page → page_bytes version page ++ begins.behind ≡ kind ∷ bytes → (kind ≡ 1) × (page_room version ≤ length bytes)
    by_page Erased fits are = absurd (no_zero (sym (first_same are)))
    by_page (Written block spare) fits are =
        (sym (first_same are), subst (λ (l : List ℕ). page_room version ≤ length l) (rest_same are) (room_is version block begins.behind spare fits.0))

-- some byte begins a page
pub some_byte : (version : Version) → BeginsWithPage version [] → ⊥
some_byte version begins = by_page begins.page begins.are
  where
    by_page : (page : Page) → page_bytes version page ++ begins.behind ≡ [] → ⊥
    by_page Erased are = cc
    by_page (Written block spare) are = cc

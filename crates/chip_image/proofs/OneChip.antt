-- An image is that of one chip only.
use Rattle.std.proofs.Common.{◌≡◌, ◌^◌, ◌<◌, ℕ, zero, suc, List, [], ◌∷◌, ◌++◌, length, refl, sym, ◌∙◌, ap, ap₂, subst, arith}
use Rattle.std.proofs.lemmas.List.{append_assoc, append-nil}
use Rattle.std.specs.List.{flat_map}
use Rattle.std.specs.Prelude.{All}
use Rattle.byteorder.specs.Endian.{big_bytes, big_number}
use Rattle.byteorder.specs.Numbers.{big_number-reads_back, length-bytes_high_first}
use Rattle.flash_pages.specs.Chip.{Page, Erased, Written}
use Rattle.flash_pages.specs.declared.chip.Geometry.{Geometry}
use Rattle.flash_pages.specs.declared.chip.Spare.{Spare}
use Rattle.chip_image.specs.Image.{image_of, magic, page_bytes, shape_bytes, spare_bytes}
use Rattle.chip_image.specs.Laws.{Fits}
use Rattle.chip_image.specs.Load.{IsOfVersion}
use Rattle.chip_image.specs.declared.version.Version.{Version}
use Rattle.chip_image.specs.declared.version.Version.TheVariants.{One, Two}

first_same : {A : Type 0} {x y : A} {xs ys : List A} → x ∷ xs ≡ y ∷ ys → x ≡ y
first_same e = cc

rest_same : {A : Type 0} {x y : A} {xs ys : List A} → x ∷ xs ≡ y ∷ ys → xs ≡ ys
rest_same e = cc

-- lists of one length in front of others
split : (xs ys cs bs : List ℕ) → length xs ≡ length ys → xs ++ cs ≡ ys ++ bs → (xs ≡ ys) × (cs ≡ bs)
split [] [] cs bs len e = (refl, e)
split [] (y ∷ ys) cs bs len e = absurd (omega (arith, len))
split (x ∷ xs) [] cs bs len e = absurd (omega (arith, len))
split (x ∷ xs) (y ∷ ys) cs bs len e =
    let more = split xs ys cs bs (omega (arith, len)) (rest_same e) in
    (ap₂ (λ (h : ℕ) (t : List ℕ). h ∷ t) (first_same e) more.0, more.1)

number_same : (n x y : ℕ) → x < 256 ^ n → y < 256 ^ n → big_bytes n x ≡ big_bytes n y → x ≡ y
number_same n x y small below e =
    sym (big_number-reads_back n x [] small) ∙ ap (λ (l : List ℕ). big_number n (l ++ [])) e ∙ big_number-reads_back n y [] below

same_len : (n x y : ℕ) → length (big_bytes n x) ≡ length (big_bytes n y)
same_len n x y = length-bytes_high_first n x ∙ sym (length-bytes_high_first n y)

place_same : (s t : Spare) (cs bs : List ℕ) → s.lba < 2 ^ 32 → s.seq < 2 ^ 64 → t.lba < 2 ^ 32 → t.seq < 2 ^ 64
    → big_bytes 4 s.lba ++ (big_bytes 8 s.seq ++ cs) ≡ big_bytes 4 t.lba ++ (big_bytes 8 t.seq ++ bs) → (s.lba ≡ t.lba) × (s.seq ≡ t.seq) × (cs ≡ bs)
place_same s t cs bs a b c d e =
    let (lba, then) = split (big_bytes 4 s.lba) (big_bytes 4 t.lba) _ _ (same_len 4 s.lba t.lba) e in
    let (seq, last) = split (big_bytes 8 s.seq) (big_bytes 8 t.seq) cs bs (same_len 8 s.seq t.seq) then in
    (number_same 4 s.lba t.lba a c lba, number_same 8 s.seq t.seq b d seq, last)

abbrev make : ℕ → ℕ → ℕ → Spare
make lun lba seq = record { lun = lun; lba = lba; seq = seq }

apart : (a b : ℕ) → a ≡ 0 → b ≡ 1 → a ≡ b → ⊥
apart a b none one same = omega (arith, none, one, same)

spare_same : (s t : Spare) → s.lun ≡ t.lun → s.lba ≡ t.lba → s.seq ≡ t.seq → s ≡ t
spare_same s t lun lba seq = ap (λ (l : ℕ). make l s.lba s.seq) lun ∙ ap (λ (b : ℕ). make t.lun b s.seq) lba ∙ ap (make t.lun t.lba) seq

written_same : (block after : List ℕ) (s t : Spare) → block ≡ after → s ≡ t → Written block s ≡ Written after t
written_same block after s t b e = ap₂ Written b e

page_same : (version : Version) (p q : Page) (xs ys : List ℕ) → Fits version p → Fits version q → page_bytes version p ++ xs ≡ page_bytes version q ++ ys → (p ≡ q) × (xs ≡ ys)
page_same version Erased Erased xs ys fits too e = (refl, rest_same e)
page_same version Erased (Written block s) xs ys fits too e = absurd (apart 0 1 refl refl (first_same e))
page_same version (Written block s) Erased xs ys fits too e = absurd (apart 0 1 refl refl (sym (first_same e)))
page_same One (Written block s) (Written after t) xs ys (len, lba, seq, lun) (len2, lba2, seq2, lun2) e =
    let (a, b, rest) = place_same s t (block ++ xs) (after ++ ys) lba seq lba2 seq2 (rest_same e) in
    let (c, d) = split block after xs ys (len ∙ sym len2) rest in
    (written_same block after s t c (spare_same s t (lun ∙ sym lun2) a b), d)
page_same Two (Written block s) (Written after t) xs ys (len, lba, seq, _) (len2, lba2, seq2, _) e =
    let behind = rest_same e in
    let (a, b, rest) = place_same s t (block ++ xs) (after ++ ys) lba seq lba2 seq2 (rest_same behind) in
    let (c, d) = split block after xs ys (len ∙ sym len2) rest in
    (written_same block after s t c (spare_same s t (first_same behind) a b), d)

pages_same : (version : Version) (a b : List Page) (xs ys : List ℕ) → length a ≡ length b → All (Fits version) a → All (Fits version) b
    → flat_map (page_bytes version) a ++ xs ≡ flat_map (page_bytes version) b ++ ys → (a ≡ b) × (xs ≡ ys)
pages_same version [] [] xs ys len fits too e = (refl, e)
pages_same version [] (q ∷ b) xs ys len fits too e = absurd (omega (arith, len))
pages_same version (p ∷ a) [] xs ys len fits too e = absurd (omega (arith, len))
pages_same version (p ∷ a) (q ∷ b) xs ys len fits too e =
    let f = flat_map (page_bytes version) in
    let (page, rest) = page_same version p q (f a ++ xs) (f b ++ ys) (fits 0 Erased (omega arith)) (too 0 Erased (omega arith))
    (sym (append_assoc (page_bytes version p) (f a) xs) ∙ e ∙ append_assoc (page_bytes version q) (f b) ys) in
    let (pages, last) = pages_same version a b xs ys (omega (arith, len)) (λ i d below. fits (suc i) d (omega (arith, below))) (λ i d below. too (suc i) d (omega (arith, below))) rest in
    (ap₂ (λ (h : Page) (t : List Page). h ∷ t) page pages, last)

pub image_same : (version : Version) (geometry : Geometry) (a b : List Page) (rest after : List ℕ) → length a ≡ length b → All (Fits version) a → All (Fits version) b
    → image_of version geometry a ++ rest ≡ image_of version geometry b ++ after → (a ≡ b) × (rest ≡ after)
image_same version geometry a b rest after len fits too e =
    let head = magic version ++ shape_bytes geometry in
    let f = flat_map (page_bytes version) in
    pages_same version a b rest after len fits too
    (split head head (f a ++ rest) (f b ++ after) refl (sym (append_assoc head (f a) rest) ∙ e ∙ append_assoc head (f b) after)).1

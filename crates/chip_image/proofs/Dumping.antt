-- An image that is written page after page.
use Rattle.std.proofs.Common.{◌≡◌, ◌+◌, ◌*◌, ◌<◌, ◌≤◌, ℕ, zero, suc, List, [], ◌∷◌, ◌++◌, length, take, drop, Option, Result, Ok, Err, refl, sym, ◌∙◌, ap, subst, arith, take_all}
use Rattle.std.proofs.lemmas.List.{append_assoc, append-nil, flat_map_more}
use Rattle.std.specs.Io.KnownBytes.{Appends}
use Rattle.std.specs.List.{flat_map}
use Rattle.flash_pages.specs.Chip.{Page, Erased, page_at}
use Rattle.flash_pages.specs.declared.chip.Geometry.{Geometry}
use Rattle.chip_image.specs.Image.{image_of, magic, page_bytes, shape_bytes}
use Rattle.chip_image.specs.declared.version.Version.TheVariants.{Two}
use Rattle.hpb_outside.specs.Writes.{AppendsFront}
use Rattle.hpb_outside.proofs.Written.{appends_more, front_after, front_more}

-- the first pages, and what follows them
next_more : (chip : List Page) (n : ℕ) → n < length chip → take (suc n) chip ≡ take n chip ++ page_at chip n ∷ []
next_more [] n below = absurd (omega (arith, below))
next_more (x ∷ xs) zero below = refl
next_more (x ∷ xs) (suc n) below = ap (λ (l : List Page). x ∷ l) (next_more xs n (omega (arith, below)))

first_more : (chip : List Page) (n : ℕ) → n < length chip → take (n + 1) chip ≡ take n chip ++ page_at chip n ∷ []
first_more chip n below = let one : n + 1 ≡ suc n = omega arith in ap (λ (m : ℕ). take m chip) one ∙ next_more chip n below

image_more : (geometry : Geometry) (chip : List Page) (n : ℕ) → n < length chip
    → image_of Two geometry (take n chip) ++ page_bytes Two (page_at chip n) ≡ image_of Two geometry (take (n + 1) chip)
image_more geometry chip n below =
    flat_map_more (page_bytes Two) (magic Two ++ shape_bytes geometry) (take n chip) (page_at chip n)
    ∙ ap (image_of Two geometry) (sym (first_more chip n below))

parts : (chip : List Page) (n : ℕ) → flat_map (page_bytes Two) (take n chip) ++ flat_map (page_bytes Two) (drop n chip) ≡ flat_map (page_bytes Two) chip
parts chip zero = refl
parts [] (suc n) = refl
parts (x ∷ xs) (suc n) = append_assoc (page_bytes Two x) (flat_map (page_bytes Two) (take n xs)) (flat_map (page_bytes Two) (drop n xs))
    ∙ ap (λ (l : List ℕ). page_bytes Two x ++ l) (parts xs n)

-- the image of the first pages is a front of that of all
pub whole_image : (geometry : Geometry) (chip : List Page) (n : ℕ) → image_of Two geometry (take n chip) ++ flat_map (page_bytes Two) (drop n chip) ≡ image_of Two geometry chip
whole_image geometry chip n =
    append_assoc (magic Two ++ shape_bytes geometry) (flat_map (page_bytes Two) (take n chip)) (flat_map (page_bytes Two) (drop n chip))
    ∙ ap (λ (l : List ℕ). (magic Two ++ shape_bytes geometry) ++ l) (parts chip n)

-- so many pages were written
abbrev pub IsDumpedTo : (geometry : Geometry) (chip : List Page) (written written_now : Option (List ℕ)) (n : ℕ) → Type 0
IsDumpedTo geometry chip written written_now n = Appends written written_now (image_of Two geometry (take n chip))

pub dump_begun : (geometry : Geometry) (chip : List Page) (written written_now : Option (List ℕ)) → Appends written written_now (magic Two ++ shape_bytes geometry)
    → IsDumpedTo geometry chip written written_now 0
dump_begun geometry chip written written_now = subst (Appends written written_now) (sym (append-nil (magic Two ++ shape_bytes geometry)))

pub dump_more : (geometry : Geometry) (chip : List Page) (a b c : Option (List ℕ)) (n : ℕ) → n < length chip → IsDumpedTo geometry chip a b n → Appends b c (page_bytes Two (page_at chip n))
    → IsDumpedTo geometry chip a c (n + 1)
dump_more geometry chip a b c n below to page =
    subst (Appends a c) (image_more geometry chip n below) (appends_more a b c (image_of Two geometry (take n chip)) (page_bytes Two (page_at chip n)) to page)

pub dump_cut : (geometry : Geometry) (chip : List Page) (a b c : Option (List ℕ)) (n : ℕ) → n < length chip → IsDumpedTo geometry chip a b n → AppendsFront b c (page_bytes Two (page_at chip n))
    → AppendsFront a c (image_of Two geometry chip)
dump_cut geometry chip a b c n below to cut =
    subst (AppendsFront a c) (whole_image geometry chip (n + 1))
    (front_more a c (image_of Two geometry (take (n + 1) chip)) (flat_map (page_bytes Two) (drop (n + 1) chip))
    (subst (AppendsFront a c) (image_more geometry chip n below) (front_after a b c (image_of Two geometry (take n chip)) (page_bytes Two (page_at chip n)) to cut)))

pub head_cut : (geometry : Geometry) (chip : List Page) (a b : Option (List ℕ)) → AppendsFront a b (magic Two ++ shape_bytes geometry) → AppendsFront a b (image_of Two geometry chip)
head_cut geometry chip a b cut = front_more a b (magic Two ++ shape_bytes geometry) (flat_map (page_bytes Two) chip) cut

pub dumped : (geometry : Geometry) (chip : List Page) (a b : Option (List ℕ)) (n : ℕ) → length chip ≤ n → IsDumpedTo geometry chip a b n → Appends a b (image_of Two geometry chip)
dumped geometry chip a b n all to = subst (λ (l : List Page). Appends a b (image_of Two geometry l)) (take_all n chip all) to

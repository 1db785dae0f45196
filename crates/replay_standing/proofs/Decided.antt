-- A chip is sound or it isn't, since each fact that makes it sound can be tried on its pages.
use Rattle.std.proofs.Common.{◌≡◌, ◌⊎◌, ℕ, zero, suc, ◌+◌, ◌*◌, ◌^◌, ◌<◌, ◌≤◌, Bool, false, cond, List, [], ◌∷◌, length, count_by, refl, subst, inl, inr, arith}
use Rattle.std.specs.Prelude.{All}
use Rattle.std.proofs.lemmas.Bool.{cases_Bool, cases_eq, cases_lt}
use Rattle.std.proofs.lemmas.List.{get_or_past}
use Rattle.std.proofs.lemmas.List.Elements.{All-nil, All-cons}
use Rattle.flash_pages.specs.declared.chip.Geometry.{Geometry}
use Rattle.flash_pages.specs.Chip.{Page, Erased, Written, page_at, is_erased, erased_count}
use Rattle.flash_pages.specs.Place.{Place, IsPlace}
use Rattle.flash_pages.specs.Unit.{place_of, same_place, rank_for, newest_rank}
use Rattle.flash_pages.specs.Sound.{ChipOk, HasGoodSpare, HasRoom, IsFull, IsNewest, IsPartlyWritten, block_pages, current_count}
use Rattle.flash_pages.proofs.Places.{same_place-true}

-- a fact holds or doesn't
abbrev Known : Type 0 → Type 0
Known P = P ⊎ (P → ⊥)

-- and so does a fact that says the same
known_as : (P Q : Type 0) → (P → Q) → (Q → P) → Known P → Known Q
known_as P Q there back (inl holds) = inl (there holds)
known_as P Q there back (inr fails) = inr (λ holds. fails (back holds))

-- and two facts at once, one of two, and one where the other holds
known_both : (P Q : Type 0) → Known P → Known Q → Known (P × Q)
known_both P Q (inl first) (inl second) = inl (first, second)
known_both P Q (inl first) (inr fails) = inr (λ both. fails both.1)
known_both P Q (inr fails) second = inr (λ both. fails both.0)

known_either : (P Q : Type 0) → Known P → Known Q → Known (P ⊎ Q)
known_either P Q (inl holds) second = inl (inl holds)
known_either P Q (inr fails) (inl holds) = inl (inr holds)
known_either P Q (inr first) (inr second) = inr (λ one. elim one [ inl holds ↦ first holds | inr holds ↦ second holds ])

known_if : (P Q : Type 0) → Known P → Known Q → Known (P → Q)
known_if P Q (inr fails) second = inl (λ holds. absurd (fails holds))
known_if P Q (inl holds) (inl second) = inl (λ _. second)
known_if P Q (inl holds) (inr fails) = inr (λ leads. fails (leads holds))

known_less : (a b : ℕ) → Known (a < b)
known_less a b = elim (cases_lt a b) [ inl less ↦ inl less | inr not_less ↦ inr (λ less. omega (arith, less, not_less)) ]

known_most : (a b : ℕ) → Known (a ≤ b)
known_most a b = elim (cases_lt b a) [ inl more ↦ inr (λ most. omega (arith, more, most)) | inr most ↦ inl most ]

-- a fact holds of each number below a bound or it doesn't
known_below : (P : ℕ → Type 0) (n : ℕ) → ((k : ℕ) → Known (P k)) → Known ((k : ℕ) → k < n → P k)
known_below P zero each = inl (λ k below. absurd (omega arith))
known_below P (suc n) each =
    elim (known_below P n each) [
      | inr fails ↦ inr (λ all. fails (λ k below. all k (omega arith)))
      | inl before ↦ elim (each n) [
        | inr fails ↦ inr (λ all. fails (all n (omega arith)))
        | inl last ↦ inl (λ k below. elim (cases_eq n k) [
          | inl same ↦ subst P same last
          | inr apart ↦ before k (omega arith)
        ])
      ]
    ]

-- a fact holds of some number below a bound or it doesn't
known_some : (P : ℕ → Type 0) (n : ℕ) → ((k : ℕ) → Known (P k)) → Known ((k : ℕ) × (k < n) × P k)
known_some P zero each = inr (λ found. omega (arith, found.1))
known_some P (suc n) each =
    elim (known_some P n each) [
      | inl found ↦ inl (found.0, omega (arith, found.1), found.2)
      | inr none ↦ elim (each n) [
        | inl last ↦ inl (n, omega arith, last)
        | inr fails ↦ inr (λ found. elim (cases_eq found.0 n) [
          | inl same ↦ fails (subst P same found.2)
          | inr apart ↦ none (found.0, omega (arith, found.1, apart), found.2)
        ])
      ]
    ]

-- a fact holds of each element or it doesn't
known_all : {X : Type 0} (P : X → Type 0) → ((x : X) → Known (P x)) → (xs : List X) → Known (All P xs)
known_all P each [] = inl (All-nil P)
known_all P each (x ∷ xs) =
    elim (each x) [
      | inr fails ↦ inr (λ all. fails (all 0 x (omega arith)))
      | inl first ↦ elim (known_all P each xs) [
        | inl rest ↦ inl (All-cons P x xs first rest)
        | inr fails ↦ inr (λ all. fails (λ k d below. all (suc k) d (omega arith)))
      ]
    ]

-- the spare area of a page
known_good : (luns units : ℕ) (page : Page) → Known (HasGoodSpare luns units page)
known_good luns units Erased = inl tt
known_good luns units (Written bytes spare) =
    let place : Place = place_of spare in
    known_both (IsPlace luns units place) (spare.seq < 2 ^ 62)
    (known_as ((place.lun < luns) × (place.lba < units)) (IsPlace luns units place)
    (λ both. record { lun = both.0; lba = both.1 }) (λ inside. (inside.lun, inside.lba))
    (known_both (place.lun < luns) (place.lba < units) (known_less place.lun luns) (known_less place.lba units)))
    (known_less spare.seq (2 ^ 62))

module _ (chip : List Page) where
  -- where pages m and n are both the newest of page m's place, they are one page
  abbrev IsAlone : ℕ → ℕ → Page → Type 0
  IsAlone m n Erased = Unit {0}
  IsAlone m n (Written bytes spare) = IsNewest chip (place_of spare) m → IsNewest chip (place_of spare) n → m ≡ n

  known_newest : (p : Place) (page : ℕ) → Known (IsNewest chip p page)
  known_newest p page =
      known_both (0 < newest_rank chip p) (rank_for p (page_at chip page) ≡ newest_rank chip p)
      (known_less 0 (newest_rank chip p)) (cases_eq (rank_for p (page_at chip page)) (newest_rank chip p))

  known_alone : (m n : ℕ) (page : Page) → Known (IsAlone m n page)
  known_alone m n Erased = inl tt
  known_alone m n (Written bytes spare) =
      let p : Place = place_of spare in
      known_if (IsNewest chip p m) (IsNewest chip p n → m ≡ n) (known_newest p m)
      (known_if (IsNewest chip p n) (m ≡ n) (known_newest p n) (cases_eq m n))

  alone_all : ((p : Place) (m n : ℕ) → IsNewest chip p m → IsNewest chip p n → m ≡ n) → (m n : ℕ) (page : Page) → IsAlone m n page
  alone_all one m n Erased = tt
  alone_all one m n (Written bytes spare) = one (place_of spare) m n

  -- a page that ranks above 0 is of the place
  alone_at : (p : Place) (m n : ℕ) (page : Page) → 0 < rank_for p page → IsAlone m n page → IsNewest chip p m → IsNewest chip p n → m ≡ n
  alone_at p m n Erased above alone = absurd (omega (arith, above))
  alone_at p m n (Written bytes spare) above alone =
      elim (cases_Bool (same_place (place_of spare) p)) [
        | inl same ↦ subst (λ q. IsNewest chip q m → IsNewest chip q n → m ≡ n) (same_place-true (place_of spare) p same) alone
        | inr other ↦ absurd (none (same_place (place_of spare) p) other above)
      ]
    where
      none : (t : Bool) → t ≡ false → 0 < cond t (spare.seq + 1) 0 → ⊥
      none t is more = let nothing : 0 < cond false (spare.seq + 1) 0 = subst (λ b. 0 < cond b (spare.seq + 1) 0) is more in omega (arith, nothing)

  above_zero : (p : Place) (page : ℕ) → IsNewest chip p page → 0 < rank_for p (page_at chip page)
  above_zero p page newest = omega (arith, newest.0, newest.1)

  inside : (p : Place) (page : ℕ) → IsNewest chip p page → page < length chip
  inside p page newest =
      elim (cases_lt page (length chip)) [
        | inl below ↦ below
        | inr past ↦
            let above : 0 < rank_for p Erased = subst (λ one. 0 < rank_for p one) (get_or_past chip page Erased past) (above_zero p page newest) in
            absurd (omega (arith, above))
      ]

  known_one_newest : Known ((p : Place) (m n : ℕ) → IsNewest chip p m → IsNewest chip p n → m ≡ n)
  known_one_newest =
      known_as ((m : ℕ) → m < length chip → (n : ℕ) → n < length chip → IsAlone m n (page_at chip m))
      ((p : Place) (m n : ℕ) → IsNewest chip p m → IsNewest chip p n → m ≡ n)
      (λ all p m n at_m at_n. alone_at p m n (page_at chip m) (above_zero p m at_m) (all m (inside p m at_m) n (inside p n at_n)) at_m at_n)
      (λ one m _ n _. alone_all one m n (page_at chip m))
      (known_below (λ m. (n : ℕ) → n < length chip → IsAlone m n (page_at chip m)) (length chip)
      (λ m. known_below (λ n. IsAlone m n (page_at chip m)) (length chip) (λ n. known_alone m n (page_at chip m))))

known_erased : (page : Page) → Known (page ≡ Erased)
known_erased Erased = inl refl
known_erased (Written bytes spare) = inr (λ is. cc)

module _ (geometry : Geometry) (chip : List Page) where
  -- where a page is erased, so is the next
  abbrev KeepsErased : ℕ → ℕ → Type 0
  KeepsErased block page =
      page_at chip (block * geometry.pages + page) ≡ Erased → page_at chip (block * geometry.pages + page + 1) ≡ Erased

  known_keeps_erased : (block page : ℕ) → Known (page + 1 < geometry.pages → KeepsErased block page)
  known_keeps_erased block page =
      known_if (page + 1 < geometry.pages) (KeepsErased block page) (known_less (page + 1) geometry.pages)
      (known_if (page_at chip (block * geometry.pages + page) ≡ Erased) (page_at chip (block * geometry.pages + page + 1) ≡ Erased)
      (known_erased (page_at chip (block * geometry.pages + page))) (known_erased (page_at chip (block * geometry.pages + page + 1))))

  known_in_order : Known ((block page : ℕ) → block < geometry.blocks → page + 1 < geometry.pages → KeepsErased block page)
  known_in_order =
      known_as ((block : ℕ) → block < geometry.blocks → (page : ℕ) → page < geometry.pages → page + 1 < geometry.pages → KeepsErased block page)
      ((block page : ℕ) → block < geometry.blocks → page + 1 < geometry.pages → KeepsErased block page)
      (λ all block page in_chip in_block. all block in_chip page (omega (arith, in_block)) in_block)
      (λ all block in_chip page _ in_block. all block page in_chip in_block)
      (known_below (λ block. (page : ℕ) → page < geometry.pages → page + 1 < geometry.pages → KeepsErased block page) geometry.blocks
      (λ block. known_below (λ page. page + 1 < geometry.pages → KeepsErased block page) geometry.pages (known_keeps_erased block)))

  -- a block is partly written or it isn't
  known_partly : (block : ℕ) → Known (IsPartlyWritten geometry chip block)
  known_partly block =
      let erased : ℕ = count_by is_erased (block_pages geometry chip block) in
      known_both (0 < erased) (erased < geometry.pages) (known_less 0 erased) (known_less erased geometry.pages)

  -- two blocks that are partly written are one
  abbrev AreSame : ℕ → ℕ → Type 0
  AreSame a b = IsPartlyWritten geometry chip a → IsPartlyWritten geometry chip b → a ≡ b

  known_same : (a b : ℕ) → Known (AreSame a b)
  known_same a b =
      known_if (IsPartlyWritten geometry chip a) (IsPartlyWritten geometry chip b → a ≡ b) (known_partly a)
      (known_if (IsPartlyWritten geometry chip b) (a ≡ b) (known_partly b) (cases_eq a b))

  known_one_partly : Known ((a b : ℕ) → a < geometry.blocks → b < geometry.blocks → AreSame a b)
  known_one_partly =
      known_as ((a : ℕ) → a < geometry.blocks → (b : ℕ) → b < geometry.blocks → AreSame a b)
      ((a b : ℕ) → a < geometry.blocks → b < geometry.blocks → AreSame a b)
      (λ all a b in_a in_b. all a in_a b in_b)
      (λ all a in_a b in_b. all a b in_a in_b)
      (known_below (λ a. (b : ℕ) → b < geometry.blocks → AreSame a b) geometry.blocks
      (λ a. known_below (AreSame a) geometry.blocks (known_same a)))

  -- a full block with fewer current pages than are erased
  abbrev GivesRoom : ℕ → Type 0
  GivesRoom block = IsFull geometry chip block × (current_count geometry chip block < erased_count chip)

  known_gives : (block : ℕ) → Known (GivesRoom block)
  known_gives block =
      known_both (IsFull geometry chip block) (current_count geometry chip block < erased_count chip)
      (cases_eq (count_by is_erased (block_pages geometry chip block)) 0) (known_less (current_count geometry chip block) (erased_count chip))

  -- some block gives room
  abbrev HasBlock : Type 0
  HasBlock = (block : ℕ) × (block < geometry.blocks) × IsFull geometry chip block × (current_count geometry chip block < erased_count chip)

  known_room : Known (HasRoom geometry chip)
  known_room =
      known_either (geometry.pages ≤ erased_count chip) HasBlock (known_most geometry.pages (erased_count chip))
      (known_as ((block : ℕ) × (block < geometry.blocks) × GivesRoom block) HasBlock
      (λ found. (found.0, found.1, found.2.0, found.2.1))
      (λ found. (found.0, found.1, (found.2, found.3)))
      (known_some GivesRoom geometry.blocks known_gives))

-- A chip is sound or it isn't.
pub sound_or_not : (geometry : Geometry) (luns units : ℕ) (pages : List Page) → ChipOk geometry luns units pages ⊎ (ChipOk geometry luns units pages → ⊥)
sound_or_not geometry luns units pages =
    elim (known_all (HasGoodSpare luns units) (known_good luns units) pages) [
      | inr fails ↦ inr (λ ok. fails ok.spares)
      | inl spares ↦ elim (known_one_newest pages) [
        | inr fails ↦ inr (λ ok. fails ok.one_newest)
        | inl one_newest ↦ elim (known_in_order geometry pages) [
          | inr fails ↦ inr (λ ok. fails ok.in_order)
          | inl in_order ↦ elim (known_one_partly geometry pages) [
            | inr fails ↦ inr (λ ok. fails ok.one_partly_written)
            | inl one_partly ↦ elim (known_room geometry pages) [
              | inr fails ↦ inr (λ ok. fails ok.room)
              | inl room ↦ inl (record { spares = spares; one_newest = one_newest; in_order = in_order; one_partly_written = one_partly; room = room })
            ]
          ]
        ]
      ]
    ]

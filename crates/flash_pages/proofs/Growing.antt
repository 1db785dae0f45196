-- The pages in memory, and the erased ones behind them.
use Rattle.std.proofs.Common.{◌≡◌, ◌+◌, ◌-◌, ◌<◌, ◌≤◌, ℕ, zero, suc, List, [], ◌∷◌, ◌++◌, length, map, set, get_or, replicate, refl, sym, ap, ◌∙◌, append_assoc, arith}
use Rattle.std.proofs.lemmas.List.{length-append, map-append, length-set, replicate-append-replicate}
use Rattle.flash_pages.specs.declared.slot.Slot.{Slot}
use Rattle.flash_pages.specs.Chip.{Page, Erased, page_at}
use Rattle.flash_pages.specs.Memory.{page_of, pages_in}

erased_at : (n page : ℕ) → page_at (replicate n Erased) page ≡ Erased
erased_at zero page = refl
erased_at (suc n) zero = refl
erased_at (suc n) (suc page) = erased_at n page

behind : (slots : List Slot) (n page : ℕ) → length slots ≤ page → page_at (map page_of slots ++ replicate n Erased) page ≡ Erased
behind [] n page above = erased_at n page
behind (slot ∷ slots) n zero above = absurd (omega arith)
behind (slot ∷ slots) n (suc page) above = behind slots n page (omega arith)

pub page_behind : (slots : List Slot) (count page : ℕ) → length slots ≤ page → page_at (pages_in slots count) page ≡ Erased
page_behind slots count page above = behind slots (count - length slots) page above

within : (slots : List Slot) (n page : ℕ) (slot : Slot) → page < length slots → page_at (map page_of slots ++ replicate n Erased) page ≡ page_of (get_or slots page slot)
within [] n page slot below = absurd (omega arith)
within (first ∷ slots) n zero slot below = refl
within (first ∷ slots) n (suc page) slot below = within slots n page slot (omega arith)

pub page_within : (slots : List Slot) (count page : ℕ) (slot : Slot) → page < length slots → page_at (pages_in slots count) page ≡ page_of (get_or slots page slot)
page_within slots count page slot below = within slots (count - length slots) page slot below

set_erased : (pages : List Page) (page : ℕ) → page_at pages page ≡ Erased → set pages page Erased ≡ pages
set_erased [] page is = refl
set_erased (first ∷ pages) zero is = ap (λ p. p ∷ pages) (sym is)
set_erased (first ∷ pages) (suc page) is = ap (λ rest. first ∷ rest) (set_erased pages page is)

set_front : (slots : List Slot) (n page : ℕ) (slot : Slot) → page < length slots
    → map page_of (set slots page slot) ++ replicate n Erased ≡ set (map page_of slots ++ replicate n Erased) page (page_of slot)
set_front [] n page slot below = absurd (omega arith)
set_front (first ∷ slots) n zero slot below = refl
set_front (first ∷ slots) n (suc page) slot below = ap (λ rest. page_of first ∷ rest) (set_front slots n page slot (omega arith))

-- a page in memory changes
pub set_within : (slots : List Slot) (count page : ℕ) (slot : Slot) → page < length slots
    → pages_in (set slots page slot) count ≡ set (pages_in slots count) page (page_of slot)
set_within slots count page slot below =
    rw (length-set slots page slot) (set_front slots (count - length slots) page slot below)

-- a page behind them is erased, which it is already
pub set_behind : (slots : List Slot) (count page : ℕ) → length slots ≤ page → pages_in slots count ≡ set (pages_in slots count) page Erased
set_behind slots count page above = sym (set_erased (pages_in slots count) page (page_behind slots count page above))

-- more of them are in memory
pub grown : (slots more : List Slot) (count : ℕ) → length slots ≤ length more → length more ≤ count
    → map page_of more ≡ map page_of slots ++ replicate (length more - length slots) Erased → pages_in more count ≡ pages_in slots count
grown slots more count order fewer is =
    let sum : (length more - length slots) + (count - length more) ≡ count - length slots = omega arith in
    ap (λ front. front ++ replicate (count - length more) Erased) is
    ∙ append_assoc (map page_of slots) (replicate (length more - length slots) Erased) (replicate (count - length more) Erased)
    ∙ ap (λ rest. map page_of slots ++ rest)
    (replicate-append-replicate (length more - length slots) (count - length more) Erased ∙ ap (λ n. replicate n Erased) sum)

-- one more of them is in memory
pub one_more : (slots : List Slot) (slot : Slot) (count : ℕ) → page_of slot ≡ Erased → length slots < count → pages_in (slots ++ slot ∷ []) count ≡ pages_in slots count
one_more slots slot count is below =
    let size : length (slots ++ slot ∷ []) ≡ length slots + 1 = length-append slots (slot ∷ []) in
    let one : (length slots + 1) - length slots ≡ 1 = omega arith in
    grown slots (slots ++ slot ∷ []) count (omega arith) (omega arith)
    (map-append page_of slots (slot ∷ []) ∙ ap (λ page. map page_of slots ++ page ∷ []) is
    ∙ ap (λ n. map page_of slots ++ replicate n Erased) (sym (ap (λ n. n - length slots) size ∙ one)))

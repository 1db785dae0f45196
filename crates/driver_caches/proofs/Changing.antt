-- A cache that is changed at its place.
use Rattle.std.proofs.Common.{◌≡◌, Bool, true, false, ℕ, zero, suc, ◌≤◌, ◌<◌, List, [], ◌∷◌, length, refl, sym, ◌∙◌, ap, subst, arith}
use Rattle.std.specs.Prelude.{if◌then◌else◌, slice_index_or, slice_set}
use Rattle.std.specs.List.{AllByRecursion}
use Rattle.host_map_cache.specs.Cache.{CacheState, issued, loaded, state_of, unloaded}
use Rattle.host_map_cache.specs.Regions.{is_issued}
use Rattle.region_state.specs.declared.shape.Shape.{Shape}
use Rattle.hpb_cdb.specs.declared.cdb.Cdb.{Cdb}
use Rattle.hpb_cdb.specs.declared.cdb.Cdb.TheVariants.{ReadBuffer}
use Rattle.driver_caches.specs.Effects.{shapes_of}
use Rattle.driver_caches.specs.Machine.{change_cache, load_ends}

pub change_at : (cs : List CacheState) (lun : ℕ) (f : CacheState → CacheState) (c : CacheState) → lun < length cs → slice_index_or cs lun c ≡ c → slice_set cs lun (f c) ≡ change_cache lun f cs
change_at [] lun f c below is = absurd (omega arith)
change_at (x ∷ xs) zero f c below is = ap (λ (y : CacheState). f y ∷ xs) (sym is)
change_at (x ∷ xs) (suc lun) f c below is = ap (λ (rest : List CacheState). x ∷ rest) (change_at xs lun f c (omega arith) is)

pub change_past : (cs : List CacheState) (lun : ℕ) (f : CacheState → CacheState) → length cs ≤ lun → cs ≡ change_cache lun f cs
change_past [] lun f past = refl
change_past (x ∷ xs) zero f past = absurd (omega arith)
change_past (x ∷ xs) (suc lun) f past = ap (λ (rest : List CacheState). x ∷ rest) (change_past xs lun f (omega arith))

pub holds_at : (P : CacheState → Type 0) (cs : List CacheState) (lun : ℕ) (c : CacheState) → AllByRecursion P cs → lun < length cs → slice_index_or cs lun c ≡ c → P c
holds_at P [] lun c all below is = absurd (omega arith)
holds_at P (x ∷ xs) zero c all below is = subst P is all.0
holds_at P (x ∷ xs) (suc lun) c all below is = holds_at P xs lun c all.1 (omega arith) is

pub change_none : (cs : List CacheState) (lun : ℕ) (f : CacheState → CacheState) → ((c : CacheState) → f c ≡ c) → cs ≡ change_cache lun f cs
change_none [] lun f none = refl
change_none (x ∷ xs) zero f none = ap (λ (y : CacheState). y ∷ xs) (sym (none x))
change_none (x ∷ xs) (suc lun) f none = ap (λ (rest : List CacheState). x ∷ rest) (change_none xs lun f none)

-- a command that loads nothing
pub no_load : (good : Bool) (got : List ℕ) (command : Cdb) → ((region sub len : ℕ) → command ≡ ReadBuffer region sub len → ⊥) → (c : CacheState) → load_ends good got command c ≡ c
no_load true got (ReadBuffer region sub len) none c = absurd (none region sub len refl)
no_load false got (ReadBuffer region sub len) none c = absurd (none region sub len refl)
no_load true got _ none c = refl
no_load false got _ none c = refl

-- the cache of a unit was changed in its place, or there is none
pub changed_at : (cs : List CacheState) (lun unit : ℕ) (f : CacheState → CacheState) (c new : CacheState) → unit ≡ lun → unit < length cs
    → c ≡ slice_index_or cs unit c → new ≡ f (slice_index_or cs unit c) → slice_set cs unit new ≡ change_cache lun f cs
changed_at cs lun unit f c new same below is change =
    ap (slice_set cs unit) (change ∙ ap f (sym is)) ∙ change_at cs unit f c below (sym is) ∙ ap (λ (n : ℕ). change_cache n f cs) same

pub changed_past : (cs : List CacheState) (lun unit : ℕ) (f : CacheState → CacheState) → unit ≡ lun → length cs ≤ unit → cs ≡ change_cache lun f cs
changed_past cs lun unit f same past = change_past cs unit f past ∙ ap (λ (n : ℕ). change_cache n f cs) same

-- where a cache keeps its shape, all caches keep theirs
pub same_shapes : (cs : List CacheState) (unit : ℕ) (c new : CacheState) → new.shape ≡ (slice_index_or cs unit c).shape → shapes_of (slice_set cs unit new) ≡ shapes_of cs
same_shapes [] unit c new same = refl
same_shapes (x ∷ xs) zero c new same = ap (λ (shape : Shape). shape ∷ shapes_of xs) same
same_shapes (x ∷ xs) (suc unit) c new same = ap (λ (shapes : List Shape). x.shape ∷ shapes) (same_shapes xs unit c new same)

either_shape : (b : Bool) (c new : CacheState) → new.shape ≡ c.shape → (if b then new else c).shape ≡ c.shape
either_shape true c new same = same
either_shape false c new same = refl

pub issued_shape : (c : CacheState) (region sub : ℕ) → (issued c region sub).shape ≡ c.shape
issued_shape c region sub = either_shape (is_issued (state_of c region sub)) c _ refl

pub loaded_shape : (c : CacheState) (region sub : ℕ) (bytes : List ℕ) → (loaded c region sub bytes).shape ≡ c.shape
loaded_shape c region sub bytes = either_shape (is_issued (state_of c region sub)) c _ refl

pub unloaded_shape : (c : CacheState) (region sub : ℕ) → (unloaded c region sub).shape ≡ c.shape
unloaded_shape c region sub = either_shape (is_issued (state_of c region sub)) c _ refl

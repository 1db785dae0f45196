-- What is shown of a UPIU that is no RESPONSE is told by its first 32 bytes and how many it has.
use Rattle.std.proofs.Common.{◌≡◌, ℕ, ◌+◌, ◌<◌, false, List, ◌++◌, length, take, drop, get_or, slice_index, codes, Option, Some, None, unwrap_or, refl, sym, ap, ◌∙◌, arith}
use Rattle.std.proofs.lemmas.List.{get_or-take, drop-take, take-take}
use Rattle.upiu_wire.specs.declared.kind.Kind.{Kind}
use Rattle.upiu_wire.specs.declared.kind.Kind.TheVariants.{NopOut, Command, DataOut, ManageRequest, QueryRequest, NopIn, Response, DataIn, ManageResponse, ReadyToTransfer, QueryResponse, Reject}
use Rattle.upiu_wire.specs.declared.fault.WireFault.{WireFault}
use Rattle.upiu_wire.specs.Kind.{kind_of}
use Rattle.upiu_wire.specs.Upiu.{Upiu, fields_at, upiu_at}
use Rattle.upiu_wire.specs.WireFault.{wire_fault_of}
use Rattle.trace_text.specs.Shown.{named, kind_name, rest_text, upiu_text, bytes_text, shown_upiu, is_response}

index_same : (a b : List ℕ) → take 32 a ≡ take 32 b → (k : ℕ) → k < 32 → slice_index a k ≡ slice_index b k
index_same a b same k lt = sym (get_or-take 32 a k 0 lt) ∙ ap (λ t. get_or t k 0) same ∙ get_or-take 32 b k 0 lt

range_of_front : (xs : List ℕ) (i n r : ℕ) → i + (n + r) ≡ 32 → take n (drop i (take 32 xs)) ≡ take n (drop i xs)
range_of_front xs i n r sum =
    ap (λ k. take n (drop i (take k xs))) (sym sum) ∙ ap (take n) (drop-take i (n + r) xs) ∙ take-take n (n + r) (drop i xs) (omega arith)

range_same : (a b : List ℕ) → take 32 a ≡ take 32 b → (i n r : ℕ) → i + (n + r) ≡ 32 → take n (drop i a) ≡ take n (drop i b)
range_same a b same i n r sum =
    sym (range_of_front a i n r sum) ∙ ap (λ t. take n (drop i t)) same ∙ range_of_front b i n r sum

rest_same : (kind : Kind) (u v : Upiu) → is_response (Some kind) ≡ false → u.first ≡ v.first → u.count ≡ v.count → u.cdb ≡ v.cdb
    → rest_text kind u ≡ rest_text kind v
rest_same NopOut u v other first count cdb = refl
rest_same Command u v other first count cdb = rw (first, cdb) refl
rest_same DataOut u v other first count cdb = rw (first, count) refl
rest_same ManageRequest u v other first count cdb = refl
rest_same QueryRequest u v other first count cdb = refl
rest_same NopIn u v other first count cdb = refl
rest_same Response u v other first count cdb = cc other
rest_same DataIn u v other first count cdb = rw (first, count) refl
rest_same ManageResponse u v other first count cdb = refl
rest_same ReadyToTransfer u v other first count cdb = rw (first, count) refl
rest_same QueryResponse u v other first count cdb = refl
rest_same Reject u v other first count cdb = rw first refl

known_kind : (o : Option Kind) → is_response o ≡ false → is_response (Some (unwrap_or o NopOut)) ≡ false
known_kind None other = refl
known_kind (Some kind) other = other

abbrev text_with : Kind → ℕ → ℕ → List ℕ → List ℕ
text_with kind lun tag rest = kind_name kind ++ named (codes " lun=") lun ++ named (codes " tag=") tag ++ rest

fields_same : (a b : List ℕ) → take 32 a ≡ take 32 b → (kind : Kind) → is_response (Some kind) ≡ false
    → upiu_text (fields_at kind a) ≡ upiu_text (fields_at kind b)
fields_same a b same kind other =
    let lun = index_same a b same 2 (omega arith) in
    let tag = index_same a b same 3 (omega arith) in
    let first : (fields_at kind a).first ≡ (fields_at kind b).first = rw (range_same a b same 12 4 16 (omega arith)) refl in
    let count : (fields_at kind a).count ≡ (fields_at kind b).count = rw (range_same a b same 16 4 12 (omega arith)) refl in
    let cdb = range_same a b same 16 16 0 (omega arith) in
    let rest = rest_same kind (fields_at kind a) (fields_at kind b) other first count cdb in
    ap (λ (r : List ℕ). text_with kind (slice_index a 2) (slice_index a 3) r) rest
    ∙ ap (λ (n : ℕ). text_with kind n (slice_index a 3) (rest_text kind (fields_at kind b))) lun
    ∙ ap (λ (n : ℕ). text_with kind (slice_index b 2) n (rest_text kind (fields_at kind b))) tag

upiu_same : (a b : List ℕ) → take 32 a ≡ take 32 b → is_response (kind_of (slice_index a 0)) ≡ false → upiu_text (upiu_at a) ≡ upiu_text (upiu_at b)
unfolding upiu_at
upiu_same a b same other =
    fields_same a b same (unwrap_or (kind_of (slice_index a 0)) NopOut) (known_kind (kind_of (slice_index a 0)) other)
    ∙ ap (λ code. upiu_text (fields_at (unwrap_or (kind_of code) NopOut) b)) (index_same a b same 0 (omega arith))

fault_same : (a b : List ℕ) → length a ≡ length b → take 32 a ≡ take 32 b → wire_fault_of a ≡ wire_fault_of b
unfolding wire_fault_of
fault_same a b len same =
    let code = index_same a b same 0 (omega arith) in
    let sets = index_same a b same 4 (omega arith) in
    let ehs = index_same a b same 8 (omega arith) in
    let size = range_same a b same 10 2 20 (omega arith) in
    rw (code, sets, ehs, size, len) refl

by_fault : (a b : List ℕ) → upiu_text (upiu_at a) ≡ upiu_text (upiu_at b) → (fault : Option WireFault) → bytes_text fault a ≡ bytes_text fault b
by_fault a b text (Some fault) = refl
by_fault a b text None = text

pub shown_same : (a b : List ℕ) → length a ≡ length b → take 32 a ≡ take 32 b → is_response (kind_of (slice_index a 0)) ≡ false
    → shown_upiu a ≡ shown_upiu b
shown_same a b len same other =
    ap (λ t. t ++ codes "\n")
    (ap (λ fault. bytes_text fault a) (fault_same a b len same) ∙ by_fault a b (upiu_same a b same other) (wire_fault_of b))

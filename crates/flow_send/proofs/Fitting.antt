-- How many bytes a chunk of a flow has at most.
use Prim.Native.Nat.{zero, suc}
use Rattle.std.proofs.Common.{◌≡◌, ℕ, ◌+◌, ◌<◌, ◌≤◌, List, [], ◌∷◌, ◌++◌, Option, Some, None, MatchOption, length, ap, arith, length-append}
use Rattle.rtmfp_vlu.specs.Vlu.{vlu}
use Rattle.rtmfp_vlu.proofs.Fields.{vlu-small}
use Rattle.rtmfp_forms.specs.Options.{option_bytes, options_bytes}
use Rattle.rtmfp_forms.proofs.Respelling.{length-options_bytes}
use Rattle.std.specs.List.{flat_map}
use Rattle.rtmfp_data_chunks.specs.FlowOptions.{metadata_option, association, associations, flow_options}
use Rattle.flow_send.specs.Rows.{Row, row_at}
use Rattle.flow_send.specs.Steady.{AllOk}

-- ---- options

-- an option of a kind below 128 whose value has at most 126 bytes
option_size : (kind : ℕ) (value : List ℕ) → kind < 128 → length value ≤ 126 → length (option_bytes (record { kind = kind; value = value })) ≡ 2 + length value
option_size kind value small few =
    let k : length (vlu kind) ≡ 1 = ap length (vlu-small kind small) in
    let n : length (vlu kind ++ value) ≡ 1 + length value = omega (arith, k, length-append (vlu kind) value) in
    let m : length (vlu (length (vlu kind ++ value))) ≡ 1 = ap length (vlu-small (length (vlu kind ++ value)) (omega (arith, n))) in
    omega (arith, m, n, length-append (vlu (length (vlu kind ++ value))) (vlu kind ++ value))

answer_size : (answers : Option ℕ) (n : ℕ) → MatchOption answers (n ≡ 0) (λ flow. (n ≡ length (vlu flow)) × (n ≤ 10)) → length (flat_map option_bytes (associations answers)) ≤ 12
answer_size None n h = omega arith
answer_size (Some flow) n h =
    omega (arith, h.0, h.1, option_size 10 (vlu flow) (omega arith) (omega (arith, h.0, h.1)), length-append (option_bytes (association flow)) [])

pub options_size : (metadata : List ℕ) (answers : Option ℕ) (n : ℕ) → length metadata ≤ 64 → MatchOption answers (n ≡ 0) (λ flow. (n ≡ length (vlu flow)) × (n ≤ 10)) → length (options_bytes (flow_options metadata answers)) ≤ 79
options_size metadata answers n few h =
    omega (
      arith,
      few,
      option_size 0 metadata (omega arith) (omega (arith, few)),
      answer_size answers n h,
      length-options_bytes (flow_options metadata answers),
      length-append (option_bytes (metadata_option metadata)) (flat_map option_bytes (associations answers)),
    )

-- ---- fragments

pub short_at : (sent n : ℕ) (rows : List Row) (at : ℕ) → AllOk sent n rows → at < length rows → length (row_at rows at).fragment.bytes ≤ 1000
short_at sent n [] at h less = absurd (omega arith)
short_at sent n (r ∷ rows) zero h less = h.0.short
short_at sent n (r ∷ rows) (suc at) h less = short_at sent (n + 1) rows at h.1 (omega arith)

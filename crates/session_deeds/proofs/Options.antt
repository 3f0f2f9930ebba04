-- The options of a flow can be written.
use Prim.Native.Nat.{zero, suc}
use Rattle.std.proofs.Common.{◌≡◌, ℕ, ◌+◌, ◌/◌, ◌%◌, ◌^◌, ◌<◌, ◌≤◌, Bool, true, false, cond, ◌||◌}
use Rattle.std.proofs.Common.{nat_lt, nat_le, List, [], ◌∷◌, Option, Some, None, length, refl}
use Rattle.std.proofs.Common.{arith, length-append}
use Rattle.std.specs.List.{flat_map}
use Rattle.std.proofs.lemmas.Bool.{ltb-false}
use Rattle.rtmfp_vlu.specs.Vlu.{groups_before, vlu}
use Rattle.rtmfp_vlu.proofs.Fields.{vlu-spells}
use Rattle.rtmfp_forms.specs.Options.{OptionParts, PieceSpells, PiecesSpell, OptionsSpell}
use Rattle.rtmfp_forms.specs.Options.{counted_bytes, option_bytes, options_bytes}
use Rattle.rtmfp_data_chunks.specs.FlowOptions.{metadata_option, association, associations}
use Rattle.rtmfp_data_chunks.specs.FlowOptions.{flow_options}
use Rattle.session_flows.specs.declared.refusal.CallRefusal.TheVariants.{FlowsFull, WideMetadata}
use Rattle.session_flows.specs.Keeping.{FlowsState}
use Rattle.session_flows.specs.Calling.{open_refusal}

groups_few : (count v : ℕ) → length (groups_before count v) ≤ count
unfolding groups_before
groups_few zero v = omega arith
groups_few (suc count) zero = omega arith
groups_few (suc count) (suc v) =
    omega (
      arith,
      groups_few count (suc v / 128),
      length-append (groups_before count (suc v / 128)) ((128 + suc v % 128) ∷ []),
    )

-- a number's spelling has at most ten bytes, whatever the number
pub vlu_few : (v : ℕ) → length (vlu v) ≤ 10
unfolding vlu
vlu_few v = omega
    (arith, groups_few 9 (v / 128), length-append (groups_before 9 (v / 128)) ((v % 128) ∷ []))

option_spelled : (o : OptionParts) → o.kind < 2 ^ 64 → length o.value ≤ 64 →
    PieceSpells o (option_bytes o)
option_spelled o kind short =
    let fits : length (counted_bytes o) < 2 ^ 64 =
    omega (arith, short, vlu_few o.kind, length-append (vlu o.kind) o.value) in
    record {
      size_bytes = vlu (length (counted_bytes o));
      kind_bytes = vlu o.kind;
      size = vlu-spells (length (counted_bytes o)) fits;
      kind = vlu-spells o.kind kind;
      whole = refl;
    }

answers_spelled : (answers : Option ℕ) →
    PiecesSpell (associations answers) (flat_map option_bytes (associations answers))
answers_spelled None = refl
answers_spelled (Some flow) = (
  option_bytes (association flow),
  [],
  refl,
  option_spelled (association flow) (omega arith) (omega (arith, vlu_few flow)),
  refl,
)

pub options_spelled : (metadata : List ℕ) (answers : Option ℕ) → length metadata ≤ 64 →
    OptionsSpell (flow_options metadata answers) (options_bytes (flow_options metadata answers))
options_spelled metadata answers short = record {
  pieces = flat_map option_bytes (flow_options metadata answers);
  marker = vlu 0;
  whole = refl;
  each = (
    option_bytes (metadata_option metadata),
    flat_map option_bytes (associations answers),
    refl,
    option_spelled (metadata_option metadata) (omega arith) short,
    answers_spelled answers,
  );
  is_marker = vlu-spells 0 (omega arith);
}

-- metadata that aren't refused have at most 64 bytes
short_by : (size : ℕ) (full wide high : Bool) → nat_lt 64 size ≡ wide →
    cond full (Some (FlowsFull 256)) (cond (wide || high) (Some (WideMetadata size)) None) ≡ None →
    size ≤ 64
short_by size true wide high e h = absurd cc
short_by size false true high e h = absurd cc
short_by size false false high e h = ltb-false 64 size e

pub short_of : (s : FlowsState) (size priority : ℕ) → open_refusal s size priority ≡ None →
    size ≤ 64
short_of s size priority h =
    short_by size (nat_le 256 (length s.sending)) (nat_lt 64 size) (nat_lt 7 priority) refl h

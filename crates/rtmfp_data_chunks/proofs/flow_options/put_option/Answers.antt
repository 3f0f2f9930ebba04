use Rattle.std.proofs.Common.{◌≡◌, ℕ, ◌+◌, List, [], ◌∷◌, ◌++◌, length, take, ap, sym, ◌∙◌, arith, refl, append_assoc}
use Rattle.rtmfp_vlu.specs.Vlu.{vlu}
use Rattle.rtmfp_vlu.proofs.Fields.{vlu-small, vlu-spells}
use Rattle.rtmfp_vlu.proofs.Shortest.{Shortest-is}
use Rattle.rtmfp_data_chunks.proofs.flow_options.put_option.Goals as goal

pub returns-clause-put : goal.returns-clause-put
returns-clause-put c =
    let value = c.args.value.now in
    let old = c.args.bytes.now.items in
    let kind : vlu c.args.kind ≡ c.args.kind ∷ [] = vlu-small c.args.kind c.requires in
    let size = length value + 1 in
    let head : take c.write_vlu-len.result c.write_vlu-len.new.out ≡ vlu size = Shortest-is size (take c.write_vlu-len.result c.write_vlu-len.new.out) c.write_vlu-len.ensures.shortest in
    let first : c.extend_from_slice.new.self.items ≡ old ++ vlu size = c.in_ok-extend_from_slice.ensures.items ∙ ap (λ (bs : List ℕ). old ++ bs) head in
    let second : c.push.new.self.items ≡ (old ++ vlu size) ++ c.args.kind ∷ [] = c.in_ok-push.ensures.items ∙ ap (λ (bs : List ℕ). bs ++ c.args.kind ∷ []) first in
    let third : c.extend_from_slice-2.new.self.items ≡ ((old ++ vlu size) ++ c.args.kind ∷ []) ++ value = c.in_ok-extend_from_slice-2.ensures.items ∙ ap (λ (bs : List ℕ). bs ++ value) second in
    let counted : c.args.kind ∷ value ≡ vlu c.args.kind ++ value = ap (λ (bs : List ℕ). bs ++ value) (sym kind) in
    let longer : size ≡ length (vlu c.args.kind ++ value) = omega (arith, ap (λ (bs : List ℕ). length bs) counted) in
    let long : vlu size ≡ vlu (length (vlu c.args.kind ++ value)) = ap vlu longer in
    third ∙ (append_assoc (old ++ vlu size) (c.args.kind ∷ []) value ∙ (append_assoc old (vlu size) (c.args.kind ∷ value)
    ∙ (ap (λ (bs : List ℕ). old ++ (bs ++ c.args.kind ∷ value)) long ∙ ap (λ (bs : List ℕ). old ++ (vlu (length (vlu c.args.kind ++ value)) ++ bs)) counted)))

pub returns-clause-spells : goal.returns-clause-spells
returns-clause-spells c =
    let value = c.args.value.now in
    let fits = c.write_vlu-len.ensures.shortest.spells.fits in
    let kind : vlu c.args.kind ≡ c.args.kind ∷ [] = vlu-small c.args.kind c.requires in
    let long : length (vlu c.args.kind ++ value) ≡ length value + 1 = omega (arith, ap (λ (bs : List ℕ). length (bs ++ value)) kind) in
    record {
      size_bytes = vlu (length (vlu c.args.kind ++ value));
      kind_bytes = vlu c.args.kind;
      size = vlu-spells (length (vlu c.args.kind ++ value)) (omega (arith, long, fits));
      kind = vlu-spells c.args.kind (omega (arith, c.requires));
      whole = refl;
    }

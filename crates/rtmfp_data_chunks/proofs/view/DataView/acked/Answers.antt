use Rattle.std.proofs.Common.{◌≡◌, ◌∙◌, ℕ, List, [], sym, refl}
use Rattle.std.specs.Borrow.{Bor}
use Rattle.rtmfp_data_chunks.specs.declared.view.DataView.{DataView}
use Rattle.rtmfp_data_chunks.specs.declared.view.DataView.TheVariants as view
use Rattle.rtmfp_data_chunks.specs.Chunk.{data_chunk}
use Rattle.rtmfp_data_chunks.specs.Acked.{acked, AckTells}
use Rattle.rtmfp_data_chunks.proofs.PairsTold.{nothing_told, pairs_told}
use Rattle.rtmfp_data_chunks.proofs.SpanLaws.{bits_tell, bits_apart}
use Rattle.rtmfp_data_chunks.proofs.view.DataView.acked.Goals as goal

pub returns-in-AckBitmap-clause-tells : goal.returns-in-AckBitmap-clause-tells
returns-in-AckBitmap-clause-tells c =
    let a = c.in-AckBitmap in
    rw (a.is, c.of_bits.ensures) (bits_apart a.upto a.bits.now, bits_tell a.upto a.bits.now)

pub returns-in-AckRanges-clause-tells : goal.returns-in-AckRanges-clause-tells
returns-in-AckRanges-clause-tells c =
    let a = c.in-AckRanges in
    rw (a.is, c.of_pairs.ensures) (λ told h. pairs_told a.upto told a.pairs.now h)

no_ack : (v : DataView) → ((f b u : ℕ) (bits : Bor (List ℕ)) → v ≡ view.AckBitmap f b u bits → ⊥) → ((f b u : ℕ) (pairs : Bor (List ℕ)) → v ≡ view.AckRanges f b u pairs → ⊥)
    → (acked (data_chunk v) ≡ []) × AckTells (data_chunk v) []
no_ack (view.Data user) p q = (refl, refl)
no_ack (view.Next user) p q = (refl, refl)
no_ack (view.AckBitmap f b u bits) p q = absurd (p f b u bits refl)
no_ack (view.AckRanges f b u pairs) p q = absurd (q f b u pairs refl)
no_ack (view.Probe f) p q = (refl, refl)
no_ack (view.Exception f d) p q = (refl, refl)

pub returns-in_default : goal.returns-in_default
returns-in_default c =
    let none = c.of_pairs-in_default.ensures ∙ nothing_told 0 in
    let h = no_ack c.args.self.now c.in_default.not-AckBitmap c.in_default.not-AckRanges in
    record { acked = none ∙ sym h.0; tells = rw none h.1 }

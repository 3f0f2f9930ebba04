use Rattle.rtmfp_data_chunks.specs.Chunk.{user_parts}
use Rattle.rtmfp_data_chunks.proofs.Respelling.{data_spelled, next_spelled, bitmap_spelled, ranges_spelled, probe_spelled, exception_spelled}
use Rattle.rtmfp_data_chunks.proofs.writing.payload_len.Goals as goal

pub returns-in-Data-clause-spells : goal.returns-in-Data-clause-spells
returns-in-Data-clause-spells c =
    let n = c.three_len-numbers.ensures in
    let behind = rw c.in-Data.is at c.requires in
    rw c.in-Data.is (λ last can. data_spelled (user_parts c.in-Data.user) n.first n.second behind c.body_len.ensures.stand)

pub returns-in-Next-clause-spells : goal.returns-in-Next-clause-spells
returns-in-Next-clause-spells c = rw c.in-Next.is (λ last can. next_spelled (user_parts c.in-Next.user) last can c.body_len-in-Next.ensures.stand)

pub returns-in-AckBitmap-clause-spells : goal.returns-in-AckBitmap-clause-spells
returns-in-AckBitmap-clause-spells c =
    let n = c.three_len.ensures in
    let a = c.in-AckBitmap in
    let fit = rw a.is at c.requires in
    rw a.is (λ last can. bitmap_spelled a.flow a.blocks a.upto a.bits.now n.first n.second n.third fit)

pub returns-in-AckRanges-clause-spells : goal.returns-in-AckRanges-clause-spells
returns-in-AckRanges-clause-spells c =
    let n = c.three_len-in-AckRanges.ensures in
    let a = c.in-AckRanges in
    let told = rw a.is at c.requires in
    rw a.is (λ last can. ranges_spelled a.flow a.blocks a.upto a.pairs.now n.first n.second n.third told)

pub returns-in-Probe-clause-spells : goal.returns-in-Probe-clause-spells
returns-in-Probe-clause-spells c = rw c.in-Probe.is (λ last can. probe_spelled c.in-Probe.flow c.number_len.ensures.fits)

pub returns-in-Exception-clause-spells : goal.returns-in-Exception-clause-spells
returns-in-Exception-clause-spells c =
    rw c.in-Exception.is (λ last can. exception_spelled c.in-Exception.flow c.in-Exception.code c.number_len-in-Exception.ensures.fits c.number_len-in-Exception-2.ensures.fits)

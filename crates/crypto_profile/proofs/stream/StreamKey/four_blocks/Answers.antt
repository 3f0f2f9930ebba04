use Rattle.std.proofs.Common.{◌≡◌, ℕ, List, ◌+◌, ◌<◌, ◌∷◌, [], ◌++◌, get_or, ap, ◌∙◌}
use Rattle.std.specs.Int.{w64, to_be_bytes}
use Rattle.sha2.specs.Sha256.{compress, digest_bytes, initial_hash_256, padding}
use Rattle.sha256_lanes.specs.Lanes.{lane}
use Rattle.sha256_lanes.proofs.OnLists.{four_cases}
use Rattle.crypto_profile.specs.Hmac.{inner_block, outer_block}
use Rattle.crypto_profile.specs.Sealing.{stream_block}
use Rattle.crypto_profile.proofs.LastBlocks.{stream_block_from}
use Rattle.crypto_profile.proofs.stream.StreamKey.four_blocks.Goals as goal

pub returns : goal.returns
returns c = λ j l.
    let x : ℕ = c.args.i + j in
    let number : List ℕ = c.args.number.now in
    let key : List ℕ = c.self.inside.alone in
    let blocks : List (List ℕ) = c.bytes_of.result ∷ c.bytes_of-2.result ∷ c.bytes_of-3.result ∷ c.bytes_of-4.result ∷ [] in
    let words : List ℕ = number ++ (to_be_bytes w64 x ++ padding 88) in
    let inner : lane c.splat.result j ≡ compress initial_hash_256 (inner_block key) = c.splat.ensures j l ∙ c.self.invariant.inner in
    let outer : lane c.splat-2.result j ≡ compress initial_hash_256 (outer_block key) = c.splat-2.ensures j l ∙ c.self.invariant.outer in
    let within : lane c.compress-within.result j ≡ compress (lane c.splat.result j) words = c.compress-within.ensures words j l (c.inner_words.ensures j l) in
    let digest : List ℕ = digest_bytes (lane c.compress-within.result j) 8 ++ padding 96 in
    let after : lane c.compress-after.result j ≡ compress (lane c.splat-2.result j) digest =
    c.compress-after.ensures digest j l (c.outer_words.ensures (lane c.splat.result j) words j l within) in
    let each : (k : ℕ) → k < 4 → get_or blocks k [] ≡ digest_bytes (lane c.compress-after.result k) 8 =
    four_cases (λ k. get_or blocks k [] ≡ digest_bytes (lane c.compress-after.result k) 8)
    (c.bytes_of.ensures ∙ ap (λ (h : List ℕ). digest_bytes h 8) c.value_of.ensures)
    (c.bytes_of-2.ensures ∙ ap (λ (h : List ℕ). digest_bytes h 8) c.value_of-2.ensures)
    (c.bytes_of-3.ensures ∙ ap (λ (h : List ℕ). digest_bytes h 8) c.value_of-3.ensures)
    (c.bytes_of-4.ensures ∙ ap (λ (h : List ℕ). digest_bytes h 8) c.value_of-4.ensures) in
    each j l
    ∙ stream_block_from key number x (lane c.compress-within.result j) (lane c.compress-after.result j) c.self.invariant.long c.told-number
    (within ∙ ap (λ s. compress s words) inner) (after ∙ ap (λ s. compress s digest) outer)
    ∙ ap (λ k. stream_block k number x) c.self.view_is

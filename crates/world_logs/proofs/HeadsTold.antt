-- The lines of what ends were given first, one after another.
use Rattle.std.proofs.Common.{◌≡◌, ℕ, zero, suc, ◌+◌, ◌<◌, ◌≤◌, List, [], ◌∷◌, ◌++◌, length, map, take, get_or, codes, slice_get, Option, Some, None, sym, ap, ◌∙◌, refl, arith, append_assoc, append-nil, add-one}
use Rattle.rtmfp_text.specs.declared.names.Named.{Named}
use Rattle.endpoint_model.specs.Event.{Setup}
use Rattle.audit_text.specs.Grammar.{line_text}
use Rattle.audit_text.specs.declared.line.LogLine.{LogLine}
use Rattle.log_writing.specs.Written.{head_line, head_lines, text_of}
use Rattle.rendezvous_world.specs.Inside.{named_of}
use Rattle.rendezvous_world.specs.Seen.{EndSeen, setup_at}
use Rattle.rendezvous_world.proofs.Ends.{is_there, setup_is}
use Rattle.world_logs.specs.Heads.{head_at, heads_of, name_at, setups_of}

name_in : (ends : List EndSeen) (k : ℕ) (x : Named) (end : EndSeen) → slice_get ends k ≡ Some end → x ≡ get_or (map named_of ends) k x → x.name ≡ end.name
name_in [] k x end there is = cc
name_in (e ∷ ends) zero x end there is =
    let same : e ≡ end = cc in
    ap (λ (n : Named). n.name) is ∙ ap (λ (s : EndSeen). s.name) same
name_in (e ∷ ends) (suc k) x end there is = name_in ends k x end there is

-- the line of an end
pub head_written : (ends : List EndSeen) (number : ℕ) (x : Named) (setup : Setup) (named : List Named) (old new : List ℕ) → named ≡ map named_of ends → number < length ends → x ≡ get_or named number x →
    setup ≡ setup_at ends number → new ≡ old ++ text_of (head_line x.name setup ∷ []) → new ≡ old ++ text_of (head_at (slice_get ends number))
head_written ends number x setup named old new same lt is given e =
    let there = is_there ends number lt in
    let name : x.name ≡ there.0.name = name_in ends number x there.0 there.1 (is ∙ ap (λ (ns : List Named). get_or ns number x) same) in
    let set : setup ≡ there.0.setup = given ∙ setup_is ends number there.0 there.1 in
    e ∙ ap (λ (n : List ℕ). old ++ text_of (head_line n setup ∷ [])) name
    ∙ ap (λ (s : Setup). old ++ text_of (head_line there.0.name s ∷ [])) set
    ∙ ap (λ (o : Option EndSeen). old ++ text_of (head_at o)) (sym there.1)

-- those of one end more
heads_more : (ends : List EndSeen) (n : ℕ) → text_of (heads_of (take (suc n) ends)) ≡ text_of (heads_of (take n ends)) ++ text_of (head_at (slice_get ends n))
heads_more [] zero = refl
heads_more [] (suc n) = refl
heads_more (end ∷ ends) zero = refl
heads_more (end ∷ ends) (suc n) =
    let line = line_text (head_line end.name end.setup) in
    let front = codes "\n" ++ text_of (heads_of (take n ends)) in
    let more = text_of (head_at (slice_get ends n)) in
    ap (λ (xs : List ℕ). line ++ (codes "\n" ++ xs)) (heads_more ends n) ∙ sym (append_assoc line front more)

pub heads_step : (ends : List EndSeen) (n : ℕ) (old mid new : List ℕ) → mid ≡ old ++ text_of (heads_of (take n ends)) → new ≡ mid ++ text_of (head_at (slice_get ends n)) →
    new ≡ old ++ text_of (heads_of (take (n + 1) ends))
heads_step ends n old mid new a b =
    let next : n + 1 ≡ suc n = add-one n in
    b ∙ ap (λ (xs : List ℕ). xs ++ text_of (head_at (slice_get ends n))) a
    ∙ append_assoc old (text_of (heads_of (take n ends))) (text_of (head_at (slice_get ends n)))
    ∙ ap (λ (xs : List ℕ). old ++ xs) (sym (heads_more ends n))
    ∙ ap (λ (k : ℕ). old ++ text_of (heads_of (take k ends))) (sym next)

-- those of the ends from a number on
heads_from : (names : ℕ → List ℕ) (k : ℕ) (ends : List EndSeen) → ((i : ℕ) → names (k + i) ≡ name_at ends i) → head_lines names k (setups_of ends) ≡ heads_of ends
heads_from names k [] h = refl
heads_from names k (end ∷ ends) h =
    let here : k ≡ k + 0 = omega arith in
    let later : (i : ℕ) → names (k + 1 + i) ≡ name_at ends i = λ i. (let next : k + 1 + i ≡ k + suc i = omega arith in ap names next ∙ h (suc i)) in
    ap (λ (name : List ℕ). head_line name end.setup ∷ head_lines names (k + 1) (setups_of ends)) (ap names here ∙ h 0)
    ∙ ap (λ (lines : List LogLine). head_line end.name end.setup ∷ lines) (heads_from names (k + 1) ends later)

pub all_heads : (ends : List EndSeen) → head_lines (name_at ends) 0 (setups_of ends) ≡ heads_of ends
all_heads ends = heads_from (name_at ends) 0 ends (λ i. (let same : 0 + i ≡ i = omega arith in ap (name_at ends) same))

use Rattle.std.proofs.Common.{◌≡◌, ℕ, [], length, Result, Ok, Err, ap, sym}
use Rattle.std.proofs.lemmas.List.{append-nil}
use Rattle.rtmfp_vlu.specs.declared.reading.VluFault.{VluFault}
use Rattle.rtmfp_vlu.proofs.Fields.{stands}
use Rattle.rtmfp_data_chunks.proofs.flow_options.flow_named.Goals as goal

abbrev used_of : Result (ℕ × ℕ) VluFault → ℕ
used_of (Ok found) = found.1
used_of (Err fault) = 0

same : (v m w n : ℕ) → let read : Result (ℕ × ℕ) VluFault = Ok (v, m) in read ≡ Ok (w, n) → m ≡ n
same v m w n e = ap used_of e

pub returns-else-used-value-clause-names : goal.returns-else-used-value-clause-names
returns-else-used-value-clause-names c = λ flow h.
    let value = c.args.value.now in
    let s = stands flow value value [] (sym (append-nil value)) h in
    let e = c.in-Ok.ensures.complete flow (length value) s.0 s.1 in
    absurd (c.if-used-value.false (same c.in-Ok.flow c.in-Ok.used flow (length value) e))

pub returns-in-Err-clause-names : goal.returns-in-Err-clause-names
returns-in-Err-clause-names c = λ flow h.
    let value = c.args.value.now in
    let s = stands flow value value [] (sym (append-nil value)) h in
    let e = c.in-Err.ensures.complete flow (length value) s.0 s.1 in
    absurd cc

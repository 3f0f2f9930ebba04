-- The calls of events: what is read is spelled, and what is spelled is read.
use Rattle.std.proofs.Common.{◌≡◌, ℕ, ◌^◌, ◌<◌, List, ◌∷◌, ◌++◌, Option, Some, None, refl, ◌∙◌, subst}
use Rattle.std.specs.Prelude.{codes, decimal}
use Rattle.hex.specs.Hex.{encode_lower}
use Rattle.identity.specs.ServiceNames.{IsServiceName}
use Rattle.rtmfp_forms.specs.Address.{AddressParts}
use Rattle.rtmfp_text.specs.AddressText.{address_text}
use Rattle.rtmfp_text.specs.Words.{bytes_text}
use Rattle.rtmfp_script.specs.Grammar.{AreBytes, IsPlainAddress}
use Rattle.rtmfp_script.specs.Fields.{◌>>=◌, address_of, either, hexadecimal_of, number_below, number_of, split_of}
use Rattle.rtmfp_script.proofs.Splits.{bind_some, some_some, split_joined}
use Rattle.audit_text.specs.declared.line.LogCall.{LogCall}
use Rattle.audit_text.specs.declared.line.LogCall.TheVariants.{Open, Seek, Cancel, Unseek, Close, Learn, Advance, Receive, Tick, Other}
use Rattle.audit_text.specs.Grammar.{IsBytesOf, IsCall, call_text}
use Rattle.audit_text.specs.Fields.{first_by, of_digits, service_of}
use Rattle.audit_text.specs.Readings.{bare_of, call_by, call_of, cancel_of, close_of, learn_of, open_of, receive_of, seek_of, unseek_of}
use Rattle.audit_text.proofs.FieldsRead.{IsSaid, IsSpelled, address_first, after, by, bytes_field, choose, first_address, first_print, first_service, follows, no_key, no_word, nonce_field, number_field, print_field, print_first, service_first, short_field}

-- ---- what is read is spelled

open_sound : (rest : List ℕ) (call : LogCall) → open_of rest ≡ Some call → IsSaid call_text IsCall (codes "open") rest call
unfolding open_of call_text
open_sound rest call h =
    let a = bind_some (first_by (of_digits 64) rest) (λ a. of_digits 32 a.1 >>= λ tag. Some (Open a.0 tag)) call h in
    let b = bind_some (of_digits 32 a.0.1) (λ tag. Some (Open a.0.0 tag)) call a.2 in
    let p = first_print rest a.0 a.1 in
    let t = nonce_field.sound a.0.1 b.0 b.1 in
    subst (IsSaid call_text IsCall (codes "open") rest) {x = Open a.0.0 b.0} (some_some _ _ b.2) (record {
      spelled = after (codes "open") rest _ (follows p t.0);
      within = (p.is, t.1);
    })

seek_sound : (rest : List ℕ) (call : LogCall) → seek_of rest ≡ Some call → IsSaid call_text IsCall (codes "seek") rest call
unfolding seek_of call_text
seek_sound rest call h =
    let a = bind_some (first_by service_of rest) (λ a. of_digits 32 a.1 >>= λ tag. Some (Seek a.0 tag)) call h in
    let b = bind_some (of_digits 32 a.0.1) (λ tag. Some (Seek a.0.0 tag)) call a.2 in
    let p = first_service rest a.0 a.1 in
    let t = nonce_field.sound a.0.1 b.0 b.1 in
    subst (IsSaid call_text IsCall (codes "seek") rest) {x = Seek a.0.0 b.0} (some_some _ _ b.2) (record {
      spelled = after (codes "seek") rest _ (follows p t.0);
      within = (p.is, t.1);
    })

cancel_sound : (rest : List ℕ) (call : LogCall) → cancel_of rest ≡ Some call → IsSaid call_text IsCall (codes "cancel") rest call
unfolding cancel_of call_text
cancel_sound rest call h =
    let a = bind_some (number_of rest) (λ n. Some (Cancel n)) call h in
    let n = number_field.sound rest a.0 a.1 in
    subst (IsSaid call_text IsCall (codes "cancel") rest) {x = Cancel a.0} (some_some _ _ a.2) (record { spelled = after (codes "cancel") rest _ n.0; within = n.1 })

unseek_sound : (rest : List ℕ) (call : LogCall) → unseek_of rest ≡ Some call → IsSaid call_text IsCall (codes "unseek") rest call
unfolding unseek_of call_text
unseek_sound rest call h =
    let a = bind_some (number_below (2 ^ 32) rest) (λ near. Some (Unseek near)) call h in
    let n = short_field.sound rest a.0 a.1 in
    subst (IsSaid call_text IsCall (codes "unseek") rest) {x = Unseek a.0} (some_some _ _ a.2) (record { spelled = after (codes "unseek") rest _ n.0; within = n.1 })

close_sound : (rest : List ℕ) (call : LogCall) → close_of rest ≡ Some call → IsSaid call_text IsCall (codes "close") rest call
unfolding close_of call_text
close_sound rest call h =
    let a = bind_some (number_below (2 ^ 32) rest) (λ near. Some (Close near)) call h in
    let n = short_field.sound rest a.0 a.1 in
    subst (IsSaid call_text IsCall (codes "close") rest) {x = Close a.0} (some_some _ _ a.2) (record { spelled = after (codes "close") rest _ n.0; within = n.1 })

learn_sound : (rest : List ℕ) (call : LogCall) → learn_of rest ≡ Some call → IsSaid call_text IsCall (codes "learn") rest call
unfolding learn_of call_text
learn_sound rest call h =
    let a = bind_some (of_digits 64 rest) (λ secret. Some (Learn secret)) call h in
    let s = print_field.sound rest a.0 a.1 in
    subst (IsSaid call_text IsCall (codes "learn") rest) {x = Learn a.0} (some_some _ _ a.2) (record { spelled = after (codes "learn") rest _ s.0; within = s.1 })

receive_sound : (rest : List ℕ) (call : LogCall) → receive_of rest ≡ Some call → IsSaid call_text IsCall (codes "receive") rest call
unfolding receive_of call_text
receive_sound rest call h =
    let a = bind_some (first_by address_of rest) (λ a. hexadecimal_of a.1 >>= λ datagram. Some (Receive a.0 datagram)) call h in
    let b = bind_some (hexadecimal_of a.0.1) (λ datagram. Some (Receive a.0.0 datagram)) call a.2 in
    let p = first_address rest a.0 a.1 in
    let d = bytes_field.sound a.0.1 b.0 b.1 in
    subst (IsSaid call_text IsCall (codes "receive") rest) {x = Receive a.0.0 b.0} (some_some _ _ b.2) (record {
      spelled = after (codes "receive") rest _ (follows p d.0);
      within = (p.is, d.1);
    })

by_sound : (word rest : List ℕ) (call : LogCall) → call_by word rest ≡ Some call → IsSaid call_text IsCall word rest call
unfolding call_by
by_sound word rest call =
    by call_text IsCall word rest call (codes "open") (open_of rest) _ (open_sound rest call)
    (by call_text IsCall word rest call (codes "seek") (seek_of rest) _ (seek_sound rest call)
    (by call_text IsCall word rest call (codes "cancel") (cancel_of rest) _ (cancel_sound rest call)
    (by call_text IsCall word rest call (codes "unseek") (unseek_of rest) _ (unseek_sound rest call)
    (by call_text IsCall word rest call (codes "close") (close_of rest) _ (close_sound rest call)
    (by call_text IsCall word rest call (codes "learn") (learn_of rest) _ (learn_sound rest call)
    (by call_text IsCall word rest call (codes "receive") (receive_of rest) None (receive_sound rest call)
    (no_key call_text IsCall word rest call)))))))

bare_sound : (word : List ℕ) (call : LogCall) → bare_of word ≡ Some call → IsSpelled call_text IsCall word call
unfolding bare_of call_text
bare_sound word call =
    choose call_text IsCall word (codes "advance") Advance _ call (record { spelled = refl; within = tt })
    (choose call_text IsCall word (codes "tick") Tick _ call (record { spelled = refl; within = tt })
    (choose call_text IsCall word (codes "other") Other None call (record { spelled = refl; within = tt })
    (no_word call_text IsCall word call)))

call_cut : (text : List ℕ) (call : LogCall) (o : Option (List ℕ × List ℕ)) → split_of 32 text ≡ o → either (bare_of text) (λ a. call_by a.0 a.1) o ≡ Some call → IsSpelled call_text IsCall text call
call_cut text call None cut h = bare_sound text call h
call_cut text call (Some a) cut h =
    let is = by_sound a.0 a.1 call h in
    record { spelled = split_joined 32 text a cut ∙ is.spelled; within = is.within }

pub call_sound : (text : List ℕ) (call : LogCall) → call_of text ≡ Some call → IsSpelled call_text IsCall text call
unfolding call_of
call_sound text call h = call_cut text call (split_of 32 text) refl h

-- ---- what is spelled is read

open_whole : (peer tag : List ℕ) → IsBytesOf 32 peer → IsBytesOf 16 tag → open_of (encode_lower peer ++ 32 ∷ encode_lower tag) ≡ Some (Open peer tag)
unfolding open_of
open_whole peer tag p t = rw (print_first peer (encode_lower tag) p, nonce_field.whole tag t) refl

seek_whole : (name tag : List ℕ) → IsServiceName name → IsBytesOf 16 tag → seek_of (encode_lower name ++ 32 ∷ encode_lower tag) ≡ Some (Seek name tag)
unfolding seek_of
seek_whole name tag n t = rw (service_first name (encode_lower tag) n, nonce_field.whole tag t) refl

cancel_whole : (n : ℕ) → n < 2 ^ 64 → cancel_of (decimal n) ≡ Some (Cancel n)
unfolding cancel_of
cancel_whole n fits = rw (number_field.whole n fits) refl

unseek_whole : (near : ℕ) → near < 2 ^ 32 → unseek_of (decimal near) ≡ Some (Unseek near)
unfolding unseek_of
unseek_whole near fits = rw (short_field.whole near fits) refl

close_whole : (near : ℕ) → near < 2 ^ 32 → close_of (decimal near) ≡ Some (Close near)
unfolding close_of
close_whole near fits = rw (short_field.whole near fits) refl

learn_whole : (secret : List ℕ) → IsBytesOf 32 secret → learn_of (encode_lower secret) ≡ Some (Learn secret)
unfolding learn_of
learn_whole secret s = rw (print_field.whole secret s) refl

receive_whole : (from : AddressParts) (datagram : List ℕ) → IsPlainAddress from → AreBytes datagram → receive_of (address_text from ++ 32 ∷ bytes_text datagram) ≡ Some (Receive from datagram)
unfolding receive_of
receive_whole from datagram f d = rw (address_first from (bytes_text datagram) f, bytes_field.whole datagram d) refl

pub call_whole : (call : LogCall) → IsCall call → call_of (call_text call) ≡ Some call
unfolding split_of call_of call_by bare_of call_text
call_whole (Open peer tag) w = open_whole peer tag w.0 w.1
call_whole (Seek name tag) w = seek_whole name tag w.0 w.1
call_whole (Cancel n) w = cancel_whole n w
call_whole (Unseek near) w = unseek_whole near w
call_whole (Close near) w = close_whole near w
call_whole (Learn secret) w = learn_whole secret w
call_whole Advance w = refl
call_whole (Receive from datagram) w = receive_whole from datagram w.0 w.1
call_whole Tick w = refl
call_whole Other w = refl

-- What a line may say is read.
use Rattle.std.proofs.Common.{◌≡◌, ℕ, ◌^◌, ◌<◌, ◌≤◌, true, List, [], ◌∷◌, ◌++◌, length, map, Option, Some, refl, ap, ◌∙◌, arith}
use Rattle.std.specs.Prelude.{decimal, nat_le}
use Rattle.std.proofs.lemmas.Bool.{le-leb}
use Rattle.rtmfp_forms.specs.Address.{AddressParts}
use Rattle.rtmfp_text.specs.AddressText.{address_text, v4_host_text}
use Rattle.rtmfp_text.specs.Words.{bytes_text, number_text}
use Rattle.identity.specs.ServiceNames.{IsServiceName}
use Rattle.translators.specs.declared.rule.Rule.{Rule}
use Rattle.rtmfp_script.specs.declared.line.ScriptLine.{ScriptLine}
use Rattle.rtmfp_script.specs.declared.line.ScriptLine.TheVariants.{End, At, Call, Towards, Bring, Translator, Place, Carry}
use Rattle.rtmfp_script.specs.declared.line.CallLine.TheVariants.{Introduce, Narrow, Seek, Cancel, Unseek, Close, Flow, Queue, Abandon, Finish, Learn, Advance, Tick}
use Rattle.rtmfp_script.specs.declared.line.AimLine.TheVariants.{Redirect, Open}
use Rattle.rtmfp_script.specs.declared.line.BringLine.TheVariants.{Deliver, Bent, Inject, Forge}
use Rattle.rtmfp_script.specs.declared.content.Content.{Content}
use Rattle.rtmfp_script.specs.Grammar.{IsName, IsCert, IsPlainAddress, IsBytesUpTo, EachIsPlainAddress, AreBytes, IsBelow, IsContent, IsHost, IsNameOrNone, IsWithin, IsLineOf, content_text, name_for, rule_text, word_for, line_text, words_text, line_limit}
use Rattle.rtmfp_script.specs.Fields.{split_of, number_of, number_below, ◌>>=◌}
use Rattle.rtmfp_script.specs.Lines.{end_of, introduce_of, narrow_of, redirect_of, at_of, open_of, open_to, seek_for, seek_of, cancel_of, unseek_of, close_of, session_at, flow_in, flow_of, queue_in, queue_of, abandon_of, finish_of, learn_of, advance_of, tick_of, deliver_of, bent_of, bytes_at, inject_of, forge_of, translator_of, place_of, carry_of, word_of, step_of}
use Rattle.rtmfp_script.proofs.Splits.{split_text, split_nothing}
use Rattle.rtmfp_script.proofs.Numbers.{number_of-decimal, number_below-decimal}
use Rattle.rtmfp_script.proofs.Digits.{bytes_of-text, hexadecimal_of-text}
use Rattle.rtmfp_script.proofs.NamesRead.{name_of-name, lacks_name, cert_of-cert}
use Rattle.rtmfp_script.proofs.Addresses.{address_of-text, host_read, lacks_address, lacks_low}
use Rattle.rtmfp_script.proofs.AddressesRead.{addresses_of-text}
use Rattle.rtmfp_script.proofs.PlacesRead.{rule_of-text, lacks_rule, place_at-text}
use Rattle.rtmfp_script.proofs.Services.{lacks_service, service_of-text}
use Rattle.rtmfp_script.proofs.Contents.{limit_by-text, no_space_number, no_space_bytes, answers_of-text, content_of-text}

end_read : (name : List ℕ) (peers sessions : ℕ) (cert : List ℕ) → IsName name → peers < 2 ^ 32 → sessions < 2 ^ 32 → IsCert cert →
    end_of (name ++ 32 ∷ (decimal peers ++ 32 ∷ (decimal sessions ++ 32 ∷ cert))) ≡ Some (End name peers sessions cert)
unfolding end_of
end_read name peers sessions cert n p s c =
    let lacks_p = lacks_low 32 peers (omega arith) (omega arith) in
    let lacks_s = lacks_low 32 sessions (omega arith) (omega arith) in
    rw (
      split_text 32 name (decimal peers ++ 32 ∷ (decimal sessions ++ 32 ∷ cert)) (lacks_name name n),
      split_text 32 (decimal peers) (decimal sessions ++ 32 ∷ cert) lacks_p,
      split_text 32 (decimal sessions) cert lacks_s,
      name_of-name name n,
      number_below-decimal (2 ^ 32) peers (omega arith) p,
      number_below-decimal (2 ^ 32) sessions (omega arith) s,
      cert_of-cert cert c,
    ) refl

introduce_read : (name : List ℕ) → IsName name → introduce_of name ≡ Some (Call name Introduce)
unfolding introduce_of
introduce_read name n = rw (name_of-name name n) refl

narrow_read : (name : List ℕ) (limit : ℕ) → IsName name → limit < 2 ^ 16 → narrow_of (name ++ 32 ∷ decimal limit) ≡ Some (Call name (Narrow limit))
unfolding narrow_of
narrow_read name limit n m = rw (split_text 32 name (decimal limit) (lacks_name name n), name_of-name name n, number_below-decimal (2 ^ 16) limit (omega arith) m) refl

redirect_read : (name peer : List ℕ) (first : AddressParts) (more : List AddressParts) → IsName name → IsName peer → length (first ∷ more) ≤ 16 → EachIsPlainAddress (first ∷ more) →
    redirect_of (name ++ 32 ∷ (peer ++ 32 ∷ words_text (map address_text (first ∷ more)))) ≡ Some (Towards name peer (first ∷ more) Redirect)
unfolding redirect_of
redirect_read name peer first more n p few good =
    rw (
      split_text 32 name (peer ++ 32 ∷ words_text (map address_text (first ∷ more))) (lacks_name name n),
      split_text 32 peer (words_text (map address_text (first ∷ more))) (lacks_name peer p),
      name_of-name name n,
      name_of-name peer p,
      addresses_of-text first more (omega (arith, few)) good,
      le-leb (length (first ∷ more)) 16 few,
    ) refl

at_read : (moment : ℕ) → moment < 2 ^ 64 → at_of (decimal moment) ≡ Some (At moment)
unfolding at_of
at_read moment m = rw (number_of-decimal moment m) refl

cancel_read : (name : List ℕ) (number : ℕ) → IsName name → number < 2 ^ 64 → cancel_of (name ++ 32 ∷ decimal number) ≡ Some (Call name (Cancel number))
unfolding cancel_of
cancel_read name number n m = rw (split_text 32 name (decimal number) (lacks_name name n), name_of-name name n, number_of-decimal number m) refl

close_read : (name : List ℕ) (near : ℕ) → IsName name → near < 2 ^ 32 → close_of (name ++ 32 ∷ decimal near) ≡ Some (Call name (Close near))
unfolding close_of
close_read name near n m = rw (split_text 32 name (decimal near) (lacks_name name n), name_of-name name n, number_below-decimal (2 ^ 32) near (omega arith) m) refl

session_at_read : (name : List ℕ) (near : ℕ) (behind : List ℕ) → IsName name → near < 2 ^ 32 → session_at (name ++ 32 ∷ (decimal near ++ 32 ∷ behind)) ≡ Some (name, near, behind)
unfolding session_at
session_at_read name near behind n i =
    rw (
      split_text 32 name (decimal near ++ 32 ∷ behind) (lacks_name name n),
      split_text 32 (decimal near) behind (lacks_low 32 near (omega arith) (omega arith)),
      name_of-name name n,
      number_below-decimal (2 ^ 32) near (omega arith) i,
    ) refl

flow_in_read : (name : List ℕ) (near priority : ℕ) (metadata : List ℕ) (answers : Option ℕ) → priority < 256 → AreBytes metadata → IsBelow (2 ^ 64) answers →
    flow_in name near (decimal priority ++ 32 ∷ words_text (bytes_text metadata ∷ word_for answers)) ≡ Some (Call name (Flow near priority metadata answers))
unfolding flow_in
flow_in_read name near priority metadata answers p m a =
    rw (
      split_text 32 (decimal priority) (words_text (bytes_text metadata ∷ word_for answers)) (lacks_low 32 priority (omega arith) (omega arith)),
      number_below-decimal 256 priority (omega arith) p,
      answers_of-text (bytes_text metadata) answers (no_space_bytes metadata m).lacks a,
      hexadecimal_of-text metadata m,
    ) refl

flow_read : (name : List ℕ) (near priority : ℕ) (metadata : List ℕ) (answers : Option ℕ) → IsName name → near < 2 ^ 32 → priority < 256 → AreBytes metadata → IsBelow (2 ^ 64) answers →
    flow_of (name ++ 32 ∷ (decimal near ++ 32 ∷ (decimal priority ++ 32 ∷ words_text (bytes_text metadata ∷ word_for answers)))) ≡ Some (Call name (Flow near priority metadata answers))
unfolding flow_of
flow_read name near priority metadata answers n i p m a =
    rw (session_at_read name near (decimal priority ++ 32 ∷ words_text (bytes_text metadata ∷ word_for answers)) n i) (flow_in_read name near priority metadata answers p m a)

queue_in_read : (name : List ℕ) (near flow : ℕ) (deadline resends : Option ℕ) (content : Content) → flow < 2 ^ 64 → IsBelow (2 ^ 64) deadline → IsBelow (2 ^ 32) resends → IsContent content →
    queue_in name near (decimal flow ++ 32 ∷ (number_text deadline ++ 32 ∷ (number_text resends ++ 32 ∷ content_text content))) ≡ Some (Call name (Queue near flow deadline resends content))
unfolding queue_in
queue_in_read name near flow deadline resends content f d r c =
    rw (
      split_text 32 (decimal flow) (number_text deadline ++ 32 ∷ (number_text resends ++ 32 ∷ content_text content)) (lacks_low 32 flow (omega arith) f),
      split_text 32 (number_text deadline) (number_text resends ++ 32 ∷ content_text content) (no_space_number (2 ^ 64) deadline (omega arith) d).lacks,
      split_text 32 (number_text resends) (content_text content) (no_space_number (2 ^ 32) resends (omega arith) r).lacks,
      number_of-decimal flow f,
      limit_by-text number_of (2 ^ 64) deadline (omega arith) number_of-decimal d,
      limit_by-text (number_below (2 ^ 32)) (2 ^ 32) resends (omega arith) (λ n small. number_below-decimal (2 ^ 32) n (omega arith) small) r,
      content_of-text content c,
    ) refl

queue_read : (name : List ℕ) (near flow : ℕ) (deadline resends : Option ℕ) (content : Content) → IsName name → near < 2 ^ 32 → flow < 2 ^ 64 → IsBelow (2 ^ 64) deadline → IsBelow (2 ^ 32) resends → IsContent content →
    queue_of (name ++ 32 ∷ (decimal near ++ 32 ∷ (decimal flow ++ 32 ∷ (number_text deadline ++ 32 ∷ (number_text resends ++ 32 ∷ content_text content))))) ≡ Some (Call name (Queue near flow deadline resends content))
unfolding queue_of
queue_read name near flow deadline resends content n i f d r c =
    rw (session_at_read name near (decimal flow ++ 32 ∷ (number_text deadline ++ 32 ∷ (number_text resends ++ 32 ∷ content_text content))) n i) (queue_in_read name near flow deadline resends content f d r c)

abandon_read : (name : List ℕ) (near flow seq : ℕ) → IsName name → near < 2 ^ 32 → flow < 2 ^ 64 → seq < 2 ^ 64 →
    abandon_of (name ++ 32 ∷ (decimal near ++ 32 ∷ (decimal flow ++ 32 ∷ decimal seq))) ≡ Some (Call name (Abandon near flow seq))
unfolding abandon_of
abandon_read name near flow seq n i f s =
    rw (
      split_text 32 name (decimal near ++ 32 ∷ (decimal flow ++ 32 ∷ decimal seq)) (lacks_name name n),
      split_text 32 (decimal near) (decimal flow ++ 32 ∷ decimal seq) (lacks_low 32 near (omega arith) (omega arith)),
      split_text 32 (decimal flow) (decimal seq) (lacks_low 32 flow (omega arith) f),
      name_of-name name n,
      number_below-decimal (2 ^ 32) near (omega arith) i,
      number_of-decimal flow f,
      number_of-decimal seq s,
    ) refl

finish_read : (name : List ℕ) (near flow : ℕ) → IsName name → near < 2 ^ 32 → flow < 2 ^ 64 →
    finish_of (name ++ 32 ∷ (decimal near ++ 32 ∷ decimal flow)) ≡ Some (Call name (Finish near flow))
unfolding finish_of
finish_read name near flow n i f =
    rw (
      split_text 32 name (decimal near ++ 32 ∷ decimal flow) (lacks_name name n),
      split_text 32 (decimal near) (decimal flow) (lacks_low 32 near (omega arith) (omega arith)),
      name_of-name name n,
      number_below-decimal (2 ^ 32) near (omega arith) i,
      number_of-decimal flow f,
    ) refl

learn_read : (name : List ℕ) → IsName name → learn_of name ≡ Some (Call name Learn)
unfolding learn_of
learn_read name n = rw (name_of-name name n) refl

advance_read : (name : List ℕ) → IsName name → advance_of name ≡ Some (Call name Advance)
unfolding advance_of
advance_read name n = rw (name_of-name name n) refl

tick_read : (name : List ℕ) → IsName name → tick_of name ≡ Some (Call name Tick)
unfolding tick_of
tick_read name n = rw (name_of-name name n) refl

deliver_read : (number : ℕ) (name : List ℕ) (from : AddressParts) → number < 2 ^ 64 → IsName name → IsPlainAddress from →
    deliver_of (decimal number ++ 32 ∷ (name ++ 32 ∷ address_text from)) ≡ Some (Bring name from (Deliver number))
unfolding deliver_of
deliver_read number name from m n f =
    rw (
      split_text 32 (decimal number) (name ++ 32 ∷ address_text from) (lacks_low 32 number (omega arith) m),
      split_text 32 name (address_text from) (lacks_name name n),
      number_of-decimal number m,
      name_of-name name n,
      address_of-text from f,
    ) refl

bent_read : (number place : ℕ) (name : List ℕ) (from : AddressParts) → number < 2 ^ 64 → place < 2 ^ 64 → IsName name → IsPlainAddress from →
    bent_of (decimal number ++ 32 ∷ (decimal place ++ 32 ∷ (name ++ 32 ∷ address_text from))) ≡ Some (Bring name from (Bent number place))
unfolding bent_of
bent_read number place name from m p n f =
    rw (
      split_text 32 (decimal number) (decimal place ++ 32 ∷ (name ++ 32 ∷ address_text from)) (lacks_low 32 number (omega arith) m),
      split_text 32 (decimal place) (name ++ 32 ∷ address_text from) (lacks_low 32 place (omega arith) p),
      split_text 32 name (address_text from) (lacks_name name n),
      number_of-decimal number m,
      number_of-decimal place p,
      name_of-name name n,
      address_of-text from f,
    ) refl

bytes_at_read : (most : ℕ) (name : List ℕ) (from : AddressParts) (bytes : List ℕ) → IsName name → IsPlainAddress from → IsBytesUpTo most bytes →
    bytes_at most (name ++ 32 ∷ (address_text from ++ 32 ∷ bytes_text bytes)) ≡ Some (name, from, bytes)
unfolding bytes_at
bytes_at_read most name from bytes n f b =
    rw (
      split_text 32 name (address_text from ++ 32 ∷ bytes_text bytes) (lacks_name name n),
      split_text 32 (address_text from) (bytes_text bytes) (lacks_address from f),
      name_of-name name n,
      address_of-text from f,
      bytes_of-text most bytes b,
    ) refl

inject_read : (name : List ℕ) (from : AddressParts) (bytes : List ℕ) → IsName name → IsPlainAddress from → IsBytesUpTo 2048 bytes →
    inject_of (name ++ 32 ∷ (address_text from ++ 32 ∷ bytes_text bytes)) ≡ Some (Bring name from (Inject bytes))
unfolding inject_of
inject_read name from bytes n f b = rw (bytes_at_read 2048 name from bytes n f b) refl

forge_read : (name : List ℕ) (from : AddressParts) (bytes : List ℕ) → IsName name → IsPlainAddress from → IsBytesUpTo 1164 bytes →
    forge_of (name ++ 32 ∷ (address_text from ++ 32 ∷ bytes_text bytes)) ≡ Some (Bring name from (Forge bytes))
unfolding forge_of
forge_read name from bytes n f b = rw (bytes_at_read 1164 name from bytes n f b) refl

open_alone : (name peer : List ℕ) → IsName name → IsName peer → open_of (name ++ 32 ∷ peer) ≡ Some (Towards name peer [] Open)
unfolding open_of open_to
open_alone name peer n p = rw (split_text 32 name peer (lacks_name name n), name_of-name name n, split_nothing 32 peer (lacks_name peer p), name_of-name peer p) refl

open_read : (name peer : List ℕ) (first : AddressParts) (more : List AddressParts) → IsName name → IsName peer → length (first ∷ more) ≤ 32 → EachIsPlainAddress (first ∷ more) →
    open_of (name ++ 32 ∷ (peer ++ 32 ∷ words_text (map address_text (first ∷ more)))) ≡ Some (Towards name peer (first ∷ more) Open)
unfolding open_of open_to
open_read name peer first more n p few good =
    rw (
      split_text 32 name (peer ++ 32 ∷ words_text (map address_text (first ∷ more))) (lacks_name name n),
      name_of-name name n,
      split_text 32 peer (words_text (map address_text (first ∷ more))) (lacks_name peer p),
      name_of-name peer p,
      addresses_of-text first more few good,
    ) refl

seek_alone : (name service : List ℕ) → IsName name → IsServiceName service → seek_of (name ++ 32 ∷ bytes_text service) ≡ Some (Call name (Seek service []))
unfolding seek_of seek_for
seek_alone name service n s =
    rw (split_text 32 name (bytes_text service) (lacks_name name n), name_of-name name n, split_nothing 32 (bytes_text service) (lacks_service service s), service_of-text service s) refl

seek_read : (name service : List ℕ) (first : AddressParts) (more : List AddressParts) → IsName name → IsServiceName service → length (first ∷ more) ≤ 32 → EachIsPlainAddress (first ∷ more) →
    seek_of (name ++ 32 ∷ (bytes_text service ++ 32 ∷ words_text (map address_text (first ∷ more)))) ≡ Some (Call name (Seek service (first ∷ more)))
unfolding seek_of seek_for
seek_read name service first more n s few good =
    rw (
      split_text 32 name (bytes_text service ++ 32 ∷ words_text (map address_text (first ∷ more))) (lacks_name name n),
      name_of-name name n,
      split_text 32 (bytes_text service) (words_text (map address_text (first ∷ more))) (lacks_service service s),
      service_of-text service s,
      addresses_of-text first more few good,
    ) refl

unseek_read : (name : List ℕ) (near : ℕ) → IsName name → near < 2 ^ 32 → unseek_of (name ++ 32 ∷ decimal near) ≡ Some (Call name (Unseek near))
unfolding unseek_of
unseek_read name near n m = rw (split_text 32 name (decimal near) (lacks_name name n), name_of-name name n, number_below-decimal (2 ^ 32) near (omega arith) m) refl

translator_read : (name : List ℕ) (mapping filter : Rule) (host : List ℕ) (first : ℕ) → IsName name → IsHost host → first < 2 ^ 16 →
    translator_of (name ++ 32 ∷ (rule_text mapping ++ 32 ∷ (rule_text filter ++ 32 ∷ (v4_host_text host ++ 32 ∷ decimal first)))) ≡ Some (Translator name mapping filter host first)
unfolding translator_of
translator_read name mapping filter host first n h f =
    rw (
      split_text 32 name (rule_text mapping ++ 32 ∷ (rule_text filter ++ 32 ∷ (v4_host_text host ++ 32 ∷ decimal first))) (lacks_name name n),
      split_text 32 (rule_text mapping) (rule_text filter ++ 32 ∷ (v4_host_text host ++ 32 ∷ decimal first)) (lacks_rule mapping),
      split_text 32 (rule_text filter) (v4_host_text host ++ 32 ∷ decimal first) (lacks_rule filter),
      split_text 32 (v4_host_text host) (decimal first) (host_read host h).lacks,
      name_of-name name n,
      rule_of-text mapping,
      rule_of-text filter,
      (host_read host h).read,
      number_below-decimal (2 ^ 16) first (omega arith) f,
    ) refl

place_read : (name : List ℕ) (at : AddressParts) (behind : Option (List ℕ)) → IsName name → IsPlainAddress at → IsNameOrNone behind →
    place_of (name ++ 32 ∷ words_text (address_text at ∷ name_for behind)) ≡ Some (Place name at behind)
unfolding place_of
place_read name at behind n a b =
    rw (split_text 32 name (words_text (address_text at ∷ name_for behind)) (lacks_name name n), name_of-name name n) (place_at-text name at behind a b)

carry_read : (number : ℕ) → number < 2 ^ 64 → carry_of (decimal number) ≡ Some (Carry number)
unfolding carry_of
carry_read number m = rw (number_of-decimal number m) refl

-- ---- by the first word

abbrev cut_of : List ℕ → Option ScriptLine
cut_of line = split_of 32 line >>= λ a. word_of a.0 a.1

said_read : (said : ScriptLine) → IsWithin said → cut_of (line_text said) ≡ Some said
unfolding split_of word_of
said_read (End name peers sessions cert) w = end_read name peers sessions cert w.0 w.1 w.2 w.3
said_read (Call name Introduce) n = introduce_read name n
said_read (Call name (Narrow limit)) w = narrow_read name limit w.0 w.1
said_read (Towards name peer [] Redirect) w = absurd (omega (arith, w.2))
said_read (Towards name peer (first ∷ more) Redirect) w = redirect_read name peer first more w.0 w.1 w.3 w.4
said_read (At moment) m = at_read moment m
said_read (Towards name peer [] Open) w = open_alone name peer w.0 w.1
said_read (Towards name peer (first ∷ more) Open) w = open_read name peer first more w.0 w.1 w.2 w.3
said_read (Call name (Seek service [])) w = seek_alone name service w.0 w.1
said_read (Call name (Seek service (first ∷ more))) w = seek_read name service first more w.0 w.1 w.2 w.3
said_read (Call name (Unseek near)) w = unseek_read name near w.0 w.1
said_read (Call name (Cancel number)) w = cancel_read name number w.0 w.1
said_read (Call name (Close near)) w = close_read name near w.0 w.1
said_read (Call name (Flow near priority metadata answers)) w = flow_read name near priority metadata answers w.0 w.1 w.2 w.3 w.4
said_read (Call name (Queue near flow deadline resends content)) w = queue_read name near flow deadline resends content w.0 w.1 w.2 w.3 w.4 w.5
said_read (Call name (Abandon near flow seq)) w = abandon_read name near flow seq w.0 w.1 w.2 w.3
said_read (Call name (Finish near flow)) w = finish_read name near flow w.0 w.1 w.2
said_read (Call name Learn) n = learn_read name n
said_read (Call name Advance) n = advance_read name n
said_read (Call name Tick) n = tick_read name n
said_read (Bring name from (Deliver number)) w = deliver_read number name from w.0 w.1 w.2
said_read (Bring name from (Bent number place)) w = bent_read number place name from w.0 w.1 w.2 w.3
said_read (Bring name from (Inject bytes)) w = inject_read name from bytes w.0 w.1 w.2
said_read (Bring name from (Forge bytes)) w = forge_read name from bytes w.0 w.1 w.2
said_read (Translator name mapping filter host first) w = translator_read name mapping filter host first w.0 w.1 w.2
said_read (Place name at behind) w = place_read name at behind w.0 w.1 w.2
said_read (Carry number) m = carry_read number m

pub step_complete : (line : List ℕ) (said : ScriptLine) → IsLineOf line said → step_of line ≡ Some said
unfolding step_of
step_complete line said is =
    let fits : nat_le (length line) line_limit ≡ true = le-leb _ _ is.fits in
    rw fits (ap cut_of is.text ∙ said_read said is.within)

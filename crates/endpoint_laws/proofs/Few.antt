-- No thing that an end does seals more startup packets than datagrams go out.
use Rattle.std.proofs.Common.{◌≡◌, ℕ, ◌+◌, ◌≤◌, List, [], ◌∷◌, ◌++◌, ap, arith}
use Rattle.endpoint_model.specs.declared.entry.Entry.{Entry}
use Rattle.endpoint_model.specs.State.{State, Did}
use Rattle.endpoint_model.specs.Event.{Call, Answer}
use Rattle.endpoint_model.specs.Log.{Answers}
use Rattle.endpoint_laws.specs.Past.{Past, stamped, onto, outs_of}
use Rattle.endpoint_laws.specs.Complete.{outs_in}
use Rattle.endpoint_laws.proofs.PacketPieces.{any_sends}
use Rattle.endpoint_laws.proofs.Small.{Quiet, Any, All, Begins, Enters, Succession}
use Rattle.endpoint_laws.proofs.Made.{all_law, answers_made}

-- how many datagrams went out, of two lists one after the other
pub outs_append : (xs ys : List Entry) → outs_in (xs ++ ys) ≡ outs_in xs + outs_in ys
outs_append [] ys = omega arith
outs_append (x ∷ xs) ys = omega (arith, outs_append xs ys)

-- no more were sealed than datagrams went out
abbrev Few : State → Did → Type 0
Few s d = d.state.sealed ≤ s.sealed + outs_in d.entries

pub few_quiet : Quiet Any Few
few_quiet = record {
  sends = any_sends (record {
    steps = record { does_nothing = λ s. omega arith; and_then = λ s d e p q. omega (arith, p, q, outs_append d.entries e.entries) };
    out = λ s generation keys to sid plain. omega arith;
    out_in = λ s near row to body is. omega arith;
    packets = λ s near row is. omega arith;
  });
  attempts = λ s startup kin. omega arith;
  close = tt;
  close_ack = tt;
  empty_ping = tt;
  discards = λ s at cause. omega arith;
  ends = λ s startup peer near why kin. omega arith;
  unseeks = λ s startup near why kin. omega arith;
  confirms = λ s startup peer near kin. omega arith;
  closes = λ s near. omega arith;
  forgets = λ s near. omega arith;
  moves = λ s near to. omega arith;
  goes_on = λ s near old new is goes. omega arith;
}

pub few_law : All Any Few
few_law = all_law few_quiet (λ s near row thing is may. omega arith) (λ s near id row x is. omega arith)

pub few_begins : Begins Few Few
few_begins = record {
  quiet = λ s d few. few;
  steps = few_quiet.sends.steps;
  starts = λ s startup peer n near ni kin. omega arith;
  seeks = λ s startup near name kin. omega arith;
  bears = λ s generation peer o j from. omega arith;
  opens = λ s startup j from kin. omega arith;
}

few_enters : Enters Few
few_enters = record { counts = λ s near row session is. omega arith; unseen = λ s limit introduces rows. omega arith }

few_succession : Succession Few
few_succession = record { learns = λ s secret none. omega arith; advances = λ s next is. omega arith }

-- so no call does
pub few_answers : (s t : State) (call : Call) (answer : Answer) (entries : List Entry) → Answers s call answer entries t → t.sealed ≤ s.sealed + outs_in entries
few_answers s t call answer entries h =
    let made = answers_made few_law few_begins few_enters few_succession s t call answer entries h in
    omega (arith, made.made, ap (λ (u : State). u.sealed) made.does.state, ap outs_in made.does.entries)

-- ---- what was done so far

pub onto_outs : (now : ℕ) (entries : List Entry) (past : Past) → outs_of (onto now entries past) ≡ outs_in entries + outs_of past
onto_outs now [] past = omega arith
onto_outs now (x ∷ xs) past = omega (arith, onto_outs now xs (stamped now x ∷ past))

-- The numbers that an end used in each context.
use Rattle.std.specs.Prelude.{ℕ, List, length, drop, ◌≡◌, ◌≤◌, ◌==◌, nat_lt, Bool, true, false, ◌&&◌, cond, Option, Some, None, if◌then◌else◌, replicate}
use Rattle.std.specs.Bool.{beq}
use Rattle.std.specs.List.{list_any}
use Rattle.std.specs.Str.{bytes_eq}
use Rattle.crypto_profile.specs.declared.keys.Context.{Context}
use Rattle.crypto_profile.specs.declared.keys.Context.TheVariants.{Startup, Session}
use Rattle.crypto_profile.specs.Sealing.{number_of}
use Rattle.endpoint_model.specs.declared.entry.Entry.{Entry}
use Rattle.endpoint_model.specs.Views.{Sending, out_in}
use Rattle.endpoint_laws.specs.Past.{Past}
use Rattle.endpoint_laws.specs.Lawful.{WasNumbered}
use Rattle.log_digest.specs.declared.numbers.Stamp.{Stamp}

-- A context with a number; what a startup context hasn't is 0.
abbrev pub stamp_of : Context → List ℕ → Stamp
stamp_of (Startup generation) number = record {
  number = number;
  ni = replicate 16 0;
  nr = replicate 16 0;
  fp_i = replicate 32 0;
  fp_r = replicate 32 0;
  generation = generation;
  sid_i = 0;
  sid_r = 0;
  session = false;
  to_responder = false;
}
stamp_of (Session generation ni nr fp_i fp_r sid_i sid_r to_responder) number = record {
  number = number;
  ni = ni;
  nr = nr;
  fp_i = fp_i;
  fp_r = fp_r;
  generation = generation;
  sid_i = sid_i;
  sid_r = sid_r;
  session = true;
  to_responder = to_responder;
}

abbrev pub is_same_stamp : Stamp → Stamp → Bool
is_same_stamp a b =
    bytes_eq a.number b.number && (bytes_eq a.ni b.ni && (bytes_eq a.nr b.nr &&
    (bytes_eq a.fp_i b.fp_i && (bytes_eq a.fp_r b.fp_r && ((a.generation == b.generation) &&
    ((a.sid_i == b.sid_i) && ((a.sid_r == b.sid_r) && (beq a.session b.session &&
    beq a.to_responder b.to_responder))))))))

abbrev pub has_stamp : List Stamp → Stamp → Bool
has_stamp stamps stamp = list_any (is_same_stamp stamp) stamps

-- They are the numbers that went out, each in its context.
pub record AreNumbersOf (past : Past) (stamps : List Stamp) : Type 0 where
  pub there : (context : Context) (number : List ℕ) → WasNumbered context number past →
      has_stamp stamps (stamp_of context number) ≡ true
  pub is : (context : Context) (number : List ℕ) →
      has_stamp stamps (stamp_of context number) ≡ true → WasNumbered context number past

-- They are those before and this one.
pub record IsStamped (stamp : Stamp) (old new : List Stamp) : Type 0 where
  pub has : (q : Stamp) → has_stamp new q ≡ cond (is_same_stamp stamp q) true (has_stamp old q)

-- the number of the packet in a datagram, where it isn't shorter than one
abbrev pub number_in : List ℕ → Option (List ℕ)
number_in datagram =
    if nat_lt (length datagram) 36 then None else Some (number_of (drop 4 datagram))

-- A datagram that goes out is long enough to have a number.
abbrev pub IsLongEnough : Option Sending → Type 0
IsLongEnough None = Unit {0}
IsLongEnough (Some sent) = 36 ≤ length sent.datagram

abbrev pub HasNumber : Entry → Type 0
HasNumber entry = IsLongEnough (out_in entry)

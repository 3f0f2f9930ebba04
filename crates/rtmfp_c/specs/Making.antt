-- What the exports of rtmfp.h do.
use Rattle.std.specs.Prelude.{ℕ, ℤ, ◌≡◌, ◌⊎◌, pos, Bool, true, false, if◌then◌else◌, List, length, map, nat_eq, is_some, slice_get, Option, Some, None, Result}
use Rattle.rtmfp_forms.specs.Address.{AddressParts}
use Rattle.std.specs.List.{list_all}
use Rattle.identity.specs.Certificates.{certificate_fault}
use Rattle.endpoint_model.specs.declared.config.Draws.{Draws}
use Rattle.endpoint_model.specs.declared.answers.Stopped.{Stopped}
use Rattle.endpoint_model.specs.declared.entry.Entry.{Entry}
use Rattle.endpoint_model.specs.Event.{Call, Seek, Setup}
use Rattle.endpoint.specs.declared.call.Answered.{Answered}
use Rattle.endpoint.specs.Keeps.{keeps}
use Rattle.c_shapes.specs.declared.shapes.CAddress.{CAddress}
use Rattle.c_shapes.specs.declared.shapes.CConfig.{CConfig}
use Rattle.c_shapes.specs.declared.shapes.CEntry.{CEntry}
use Rattle.c_shapes.specs.Numbers as numbers
use Rattle.c_shapes.specs.Shapes.{is_address, is_config, placed}
use Rattle.c_shapes.specs.Shown.{bytes_of, shown}
use Rattle.rtmfp_c.specs.declared.handle.Handle.{Handle}
use Rattle.rtmfp_c.specs.declared.node.Node.{Node}
use Rattle.rtmfp_c.specs.Going.{IsFresh, Makes, Receives}
use Rattle.rtmfp_c.specs.Handles.{Goes, IsEmpty, end_in}

-- What a call of an end does by a handle: with an answer, that the end made it; with none, that
-- there is no end.
abbrev pub Leaves : ℕ → Call → Option Answered → Handle → Handle → Type 0
Leaves moment call (Some answered) old new = Goes (Makes moment call answered) old new
Leaves moment call None old new = IsEmpty old new

-- An export that makes a call: its number is the one of what the call answered.
pub record Done (moment : ℕ) (call : Call) (code : ℤ) (old new : Handle) : Type 0 where
  pub answered : Option Answered
  pub leaves : Leaves moment call answered old new
  pub code_is : code ≡ numbers.told_number answered

-- The same of one that writes a number, which is what the call gave; where it gave none, what stood
-- there before stands there still.
pub record Gives (moment : ℕ) (call : Call) (code : ℤ) (before after : ℕ) (old new : Handle)
    : Type 0 where
  pub answered : Option Answered
  pub leaves : Leaves moment call answered old new
  pub code_is : code ≡ numbers.told_number answered
  pub gives : after ≡ numbers.given_by answered before

-- The same of one that writes a session ID.
pub record Finds (moment : ℕ) (call : Call) (code : ℤ) (before after : ℕ) (old new : Handle)
    : Type 0 where
  pub answered : Option Answered
  pub leaves : Leaves moment call answered old new
  pub code_is : code ≡ numbers.told_number answered
  pub gives : after ≡ numbers.near_given_by answered before

-- An export did nothing, and tells this.
pub record Tells (told code : ℤ) (old new : Handle) : Type 0 where
  pub code_is : code ≡ told
  pub same : new ≡ old

-- No memory was found before the call, or the call was made.
abbrev pub DoneIfRoom : ℕ → Call → ℤ → Handle → Handle → Type 0
DoneIfRoom moment call code old new =
    Tells numbers.no_memory code old new ⊎ Done moment call code old new

abbrev pub GivesIfRoom : ℕ → Call → ℤ → ℕ → ℕ → Handle → Handle → Type 0
GivesIfRoom moment call code before after old new =
    (Tells numbers.no_memory code old new × (after ≡ before))
    ⊎ Gives moment call code before after old new

abbrev pub FindsIfRoom : ℕ → Call → ℤ → ℕ → ℕ → Handle → Handle → Type 0
FindsIfRoom moment call code before after old new =
    (Tells numbers.no_memory code old new × (after ≡ before))
    ⊎ Finds moment call code before after old new

-- A search for a name that is one: an address isn't one and nothing was done, or it was begun.
abbrev pub SeeksIf : Bool → List ℕ → List CAddress → ℕ → Draws → ℤ → ℕ → ℕ → Handle → Handle →
    Type 0
SeeksIf true name given moment draws code before after old new =
    FindsIfRoom moment (Seek name (map placed given) draws) code before after old new
SeeksIf false name given moment draws code before after old new =
    Tells numbers.address code old new × (after ≡ before)

abbrev pub Seeks : List ℕ → List CAddress → ℕ → Draws → ℤ → ℕ → ℕ → Handle → Handle → Type 0
Seeks name given moment draws code before after old new =
    SeeksIf (list_all is_address given) name given moment draws code before after old new

-- What a datagram does by a handle.
abbrev pub Takes : AddressParts → ℕ → List ℕ → Draws → Option (Result (Unit {0}) Stopped) → Handle →
    Handle → Type 0
Takes from moment datagram draws (Some answered) old new =
    Goes (Receives from moment datagram draws answered) old new
Takes from moment datagram draws None old new = IsEmpty old new

pub record Took (from : AddressParts) (moment : ℕ) (datagram : List ℕ) (draws : Draws) (code : ℤ)
    (old new : Handle) : Type 0 where
  pub answered : Option (Result (Unit {0}) Stopped)
  pub takes : Takes from moment datagram draws answered old new
  pub code_is : code ≡ numbers.took_number answered

-- ---- an end that is made

-- why no end is made, the first reason that stands, but for want of memory
abbrev pub new_refusal : Handle → CConfig → List ℕ → Option ℤ
new_refusal h config certificate =
    if is_some (end_in h) then Some numbers.full
    else if is_config config then
    (if is_some (certificate_fault certificate) then Some numbers.certificate else None)
    else Some numbers.config

-- The handle holds a fresh end.
pub record Begins (setup : Setup) (code : ℤ) (new : Handle) : Type 0 where
  pub node : Node
  pub code_is : code ≡ numbers.done
  pub holds : end_in new ≡ Some node
  pub fresh : IsFresh setup node

-- ---- reads

-- whether a session with a peer is kept, as a number
abbrev pub kept_number : Option Node → List ℕ → ℤ
kept_number None print = numbers.empty
kept_number (Some node) print = if keeps node.end print then pos 1 else pos 0

-- how many entries there are
abbrev pub count_in : Option Node → ℕ
count_in None = 0
count_in (Some node) = length node.out.entries

-- The entry is written, or it isn't there and nothing is.
abbrev pub Writes : Option Entry → ℤ → CEntry → CEntry → Type 0
Writes (Some entry) code old new = (code ≡ numbers.done) × (new ≡ shown new.at entry)
Writes None code old new = (code ≡ numbers.no_entry) × (new ≡ old)

-- The bytes are written if there is just room for them, and else nothing is.
abbrev pub WritesIf : Bool → List ℕ → ℤ → List ℕ → List ℕ → Type 0
WritesIf true bytes code old new = (code ≡ numbers.done) × (new ≡ bytes)
WritesIf false bytes code old new = (code ≡ numbers.other_size) × (new ≡ old)

abbrev pub WritesBytes : List ℕ → ℤ → List ℕ → List ℕ → Type 0
WritesBytes bytes code old new =
    WritesIf (nat_eq (length old) (length bytes)) bytes code old new

abbrev pub CopiesEntry : Option Entry → ℤ → List ℕ → List ℕ → Type 0
CopiesEntry (Some entry) code old new = WritesBytes (bytes_of entry) code old new
CopiesEntry None code old new = (code ≡ numbers.no_entry) × (new ≡ old)

abbrev pub Copies : Option Node → ℕ → ℤ → List ℕ → List ℕ → Type 0
Copies None index code old new = (code ≡ numbers.empty) × (new ≡ old)
Copies (Some node) index code old new =
    CopiesEntry (slice_get node.out.entries index) code old new

abbrev pub TellsEntry : Option Node → ℕ → ℤ → CEntry → CEntry → Type 0
TellsEntry None index code old new = (code ≡ numbers.empty) × (new ≡ old)
TellsEntry (Some node) index code old new =
    Writes (slice_get node.out.entries index) code old new

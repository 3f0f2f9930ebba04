-- Lines around the texts of calls and entries, for rows.
use Rattle.std.specs.Prelude.{ℕ, false, List, ◌∷◌, ◌++◌, codes, replicate}
use Rattle.rtmfp_forms.specs.Address.{AddressParts}
use Rattle.audit_text.specs.declared.line.LogCall.{LogCall}
use Rattle.audit_text.specs.declared.line.LogEntry.{LogEntry}
use Rattle.audit_text.specs.declared.line.LogLine.TheVariants.{Event, Entry}
use Rattle.audit_text.specs.Grammar.{IsLineOf, IsOutside}

-- the line of a call, with a nonce of digits 2
abbrev pub drawn_line : List ℕ → List ℕ
drawn_line text = codes "event a 5 " ++ replicate 32 0x32 ++ codes " " ++ text

-- the same with a nonce of digits 0
abbrev pub silent_line : List ℕ → List ℕ
silent_line text = codes "event a 5 " ++ replicate 32 0x30 ++ codes " " ++ text

-- the call that draws has this text
abbrev pub IsDrawnRow : List ℕ → LogCall → Type 0
IsDrawnRow text call = IsLineOf (drawn_line text)
    (Event (codes "a") (record { moment = 5; nonce = replicate 16 0x22; call = call }))

-- the call has this text, with a nonce of digits 0
abbrev pub IsSilentRow : List ℕ → LogCall → Type 0
IsSilentRow text call = IsLineOf (silent_line text)
    (Event (codes "a") (record { moment = 5; nonce = replicate 16 0; call = call }))

-- no call has this text
abbrev pub IsNoCall : List ℕ → Type 0
IsNoCall text = IsOutside (silent_line text)

abbrev pub IsEntryRow : List ℕ → LogEntry → Type 0
IsEntryRow text entry = IsLineOf (codes "+ " ++ text) (Entry entry)

abbrev pub IsNoEntry : List ℕ → Type 0
IsNoEntry text = IsOutside (codes "+ " ++ text)

-- a place
abbrev pub at : AddressParts
at = record { v6 = false; origin = 0; host = 1 ∷ 2 ∷ 3 ∷ 4 ∷ replicate 12 0; port = 5 }

-- What becomes of a datagram that an end sent: outward through the translator of its place, if it
-- stands behind one, and then inward to the address that it was sent to.
use Rattle.std.specs.Prelude.{ℕ, ◌≡◌, List, Option, Some, None, slice_get, slice_set, Result, Ok, Err}
use Rattle.std.specs.List.{find}
use Rattle.rtmfp_forms.specs.Address.{AddressParts}
use Rattle.translators.specs.declared.news.News.{News}
use Rattle.translators.specs.declared.news.News.TheVariants.{Nothing}
use Rattle.translators.specs.declared.refusal.OutRefusal.{OutRefusal}
use Rattle.translators.specs.declared.refusal.OutRefusal.TheVariants.{Family as AnyFamily, PortsFull as AllPorts}
use Rattle.translators.specs.declared.refusal.InRefusal.{InRefusal}
use Rattle.translators.specs.declared.refusal.InRefusal.TheVariants.{Unmapped as NotMapped, Filtered as NotLetIn}
use Rattle.translators.specs.Mappings.{Call, from_to}
use Rattle.translators.specs.Translator.{TranslatorState, out_refusal, public_of, after_use, inward_of}
use Rattle.translators.specs.Undoing.{news_of}
use Rattle.end_places.specs.declared.standing.Standing.{Standing}
use Rattle.end_places.specs.declared.standing.NamedTranslator.{NamedTranslator}
use Rattle.end_places.specs.declared.carried.Carried.{Carried}
use Rattle.end_places.specs.declared.carried.Carried.TheVariants.{Arrives, Lost as IsLost}
use Rattle.end_places.specs.declared.carried.Lost.{Lost}
use Rattle.end_places.specs.declared.carried.Lost.TheVariants.{Family, PortsFull, Unmapped, Filtered, Nobody}
use Rattle.end_places.specs.declared.outward.Out.{Out}
use Rattle.end_places.specs.declared.outward.Out.TheVariants.{From as OutFrom, Lost as OutLost}
use Rattle.end_places.specs.Seen.{PlacesSeen, has_number, stands_at, translator_at}

-- where an end stands
abbrev pub standing_of : PlacesSeen → ℕ → Option Standing
standing_of p end = find (has_number end) p.ends

abbrev pub number_in : Option Standing → Option ℕ
number_in None = None
number_in (Some s) = Some s.end

-- the number of the end that stands at a place
abbrev pub end_at : PlacesSeen → AddressParts → Option ℕ → Option ℕ
end_at p at behind = number_in (find (stands_at at behind) p.ends)

-- ---- outward

-- the translator with a number, and that behind which an end stands
abbrev pub translator_in : Option NamedTranslator → Option TranslatorState
translator_in None = None
translator_in (Some named) = Some named.translator

abbrev pub translator_of : PlacesSeen → Option ℕ → Option TranslatorState
translator_of p None = None
translator_of p (Some number) = translator_in (slice_get p.translators number)

abbrev pub lost_by : Option OutRefusal → Option Lost
lost_by (Some AnyFamily) = Some Family
lost_by (Some (AllPorts count)) = Some (PortsFull count)
lost_by other = None

-- why what an end sends doesn't go out; without a translator it does
abbrev pub lost_outward : Option TranslatorState → Call → Option Lost
lost_outward None call = None
lost_outward (Some t) call = lost_by (out_refusal t call)

-- the address that it goes out from
abbrev pub source_of : Option TranslatorState → Call → AddressParts
source_of None call = call.inner
source_of (Some t) call = public_of t call

abbrev pub used_by : NamedTranslator → Call → NamedTranslator
used_by named call = record { name = named.name; translator = after_use named.translator call }

abbrev pub with_used : List NamedTranslator → ℕ → Option NamedTranslator → Call →
    List NamedTranslator
with_used ts number None call = ts
with_used ts number (Some named) call = slice_set ts number (used_by named call)

abbrev pub all_used : List NamedTranslator → Option ℕ → Call → List NamedTranslator
all_used ts None call = ts
all_used ts (Some number) call = with_used ts number (slice_get ts number) call

-- what an outward step gives: the address that it goes out from, or why it doesn't
abbrev pub out_by : Option Lost → AddressParts → Out
out_by (Some lost) from = OutLost lost
out_by None from = OutFrom from

-- a translator after a call, which it may have refused
abbrev pub taken_by : NamedTranslator → Call → Option Lost → NamedTranslator
taken_by named call (Some lost) = named
taken_by named call None = used_by named call

-- its translator has taken it
abbrev pub after_outward : PlacesSeen → Option ℕ → Call → PlacesSeen
after_outward p behind call = record {
  translators = all_used p.translators behind call;
  ends = p.ends;
}

-- ---- inward

abbrev pub arrived : Option ℕ → AddressParts → Carried
arrived None from = IsLost Nobody
arrived (Some end) from = Arrives end from

abbrev pub came_in : PlacesSeen → ℕ → Result AddressParts InRefusal → AddressParts → Carried
came_in p number (Ok inner) from = arrived (end_at p inner (Some number)) from
came_in p number (Err NotMapped) from = IsLost Unmapped
came_in p number (Err NotLetIn) from = IsLost Filtered

abbrev pub inward_by : PlacesSeen → ℕ → Option TranslatorState → AddressParts → AddressParts →
    Carried
inward_by p number None to from = IsLost Nobody
inward_by p number (Some t) to from = came_in p number (inward_of t to from) from

-- It goes through the translator with the host that it was sent to, if there is one, to the end at
-- that place behind it; else to the end that stands at the address itself.
abbrev pub inward_at : PlacesSeen → Option ℕ → AddressParts → AddressParts → Carried
inward_at p None to from = arrived (end_at p to None) from
inward_at p (Some number) to from =
    inward_by p number (translator_of p (Some number)) to from

abbrev pub brought : PlacesSeen → AddressParts → AddressParts → Carried
brought p to from = inward_at p (translator_at p to) to from

-- ---- both ways

abbrev pub call_from : Standing → AddressParts → Call
call_from s to = from_to s.at to

-- why what stands here doesn't go out to an address
abbrev pub lost_from : PlacesSeen → Standing → AddressParts → Option Lost
lost_from p s to = lost_outward (translator_of p s.behind) (call_from s to)

abbrev pub after_or : PlacesSeen → Option ℕ → Call → Option Lost → PlacesSeen
after_or p behind call (Some lost) = p
after_or p behind call None = after_outward p behind call

-- what becomes of it then
abbrev pub carried_on : PlacesSeen → AddressParts → Out → Carried
carried_on p to (OutLost lost) = IsLost lost
carried_on p to (OutFrom from) = brought p to from

abbrev pub carried_or : PlacesSeen → Standing → AddressParts → Option Lost → Carried
carried_or p s to lost = carried_on (after_or p s.behind (call_from s to) lost) to
    (out_by lost (source_of (translator_of p s.behind) (call_from s to)))

abbrev pub carried_from : PlacesSeen → AddressParts → Option Standing → Option Carried
carried_from p to None = None
carried_from p to (Some s) = Some (carried_or p s to (lost_from p s to))

-- what becomes of what an end sends; none where it has no place
abbrev pub carried_of : PlacesSeen → ℕ → AddressParts → Option Carried
carried_of p sender to = carried_from p to (standing_of p sender)

abbrev pub after_from : PlacesSeen → AddressParts → Option Standing → PlacesSeen
after_from p to None = p
after_from p to (Some s) = after_or p s.behind (call_from s to) (lost_from p s to)

-- what it leaves; an outward step that was made stands, whatever comes after it
abbrev pub after_carry : PlacesSeen → ℕ → AddressParts → PlacesSeen
after_carry p sender to = after_from p to (standing_of p sender)

-- ---- taken back

abbrev pub news_by : Option TranslatorState → Call → News
news_by None call = Nothing
news_by (Some t) call = news_of t call

abbrev pub news_from : PlacesSeen → AddressParts → Option Standing → News
news_from p to None = Nothing
news_from p to (Some s) = news_by (translator_of p s.behind) (call_from s to)

-- what the outward step would make
abbrev pub carry_news : PlacesSeen → ℕ → AddressParts → News
carry_news p sender to = news_from p to (standing_of p sender)

-- What an end sent was carried, which made this, and arrived.
pub record WasCarried (before : PlacesSeen) (sender : ℕ) (to : AddressParts) (news : News)
    (after : PlacesSeen) : Type 0 where
  pub end : ℕ
  pub from : AddressParts
  pub arrives : carried_of before sender to ≡ Some (Arrives end from)
  pub made : news ≡ carry_news before sender to
  pub left : after ≡ after_carry before sender to

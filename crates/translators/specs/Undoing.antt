-- What an outward call makes, so that it can be undone.
use Rattle.std.specs.Prelude.{◌≡◌, if◌then◌else◌, Option, Some, None, slice_get}
use Rattle.translators.specs.declared.news.News.{News}
use Rattle.translators.specs.declared.news.News.TheVariants.{Nothing, NewHost, NewMapping}
use Rattle.translators.specs.Mappings.{Mapped, Call, has_host}
use Rattle.translators.specs.Translator.{TranslatorState, place_for, out_refusal, after_use}

abbrev pub news_by : Option Mapped → Call → News
news_by None call = NewMapping
news_by (Some m) call = if has_host call.to.host m.towards then Nothing else NewHost

-- what a call makes that isn't there
abbrev pub news_of : TranslatorState → Call → News
news_of t call =
    if call.inner.v6 then Nothing else news_by (slice_get t.mappings (place_for t call)) call

-- A call went out, which made this.
pub record WentOut (before : TranslatorState) (call : Call) (news : News) (after : TranslatorState)
    : Type 0 where
  pub goes : out_refusal before call ≡ None
  pub made : news ≡ news_of before call
  pub used : after ≡ after_use before call

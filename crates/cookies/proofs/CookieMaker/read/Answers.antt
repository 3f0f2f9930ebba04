use Rattle.std.proofs.Common.{sym, ◌∙◌, ap}
use Rattle.std.proofs.lemmas.List.{take_rest}
use Rattle.rtmfp_forms.specs.AddressReading.{address_at}
use Rattle.cookies.specs.Cookie.{cookie_found}
use Rattle.cookies.proofs.Reading.{none_short, read_by}
use Rattle.cookies.proofs.CookieMaker.read.Goals as goal

pub returns-then-bytes-lt-MOMENT_LEN : goal.returns-then-bytes-lt-MOMENT_LEN
returns-then-bytes-lt-MOMENT_LEN c = sym (none_short c.args.self.now c.args.bytes.now c.if-bytes-lt-MOMENT_LEN.true)

pub returns : goal.returns
returns c =
    c.found.ensures
    ∙ ap (cookie_found c.args.self.now c.args.bytes.now) (c.read_address-read.ensures.exact ∙ ap address_at (take_rest c.args.bytes.now 8))
    ∙ read_by c.args.self.now c.args.bytes.now

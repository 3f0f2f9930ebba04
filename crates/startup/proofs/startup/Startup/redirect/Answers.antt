use Rattle.std.proofs.Common.{sym, ◌∙◌}
use Rattle.startup.specs.Redirects.{told_addresses}
use Rattle.startup.proofs.Redirected.{extends, is_found, spread_is, left_is}
use Rattle.startup.proofs.startup.Startup.redirect.Goals as goal

pub apply_redirect-requires : goal.apply_redirect-requires
apply_redirect-requires c = extends c.args.self.now c.args.tag.now (told_addresses c.args.list.now c.args.from.now) c.in-Ok.extension c.in-Ok.ensures.extension

pub returns-in-Ok-clause-spread : goal.returns-in-Ok-clause-spread
returns-in-Ok-clause-spread c =
    let told = told_addresses c.args.list.now c.args.from.now in
    sym (spread_is c.args.self.now c.args.tag.now told c.in-Ok.extension c.in-Ok.ensures.extension)
    ∙ c.apply_redirect.ensures.spread _ (is_found c.args.self.now c.args.tag.now told c.in-Ok.extension c.in-Ok.ensures.extension)

pub returns-in-Ok-clause-after : goal.returns-in-Ok-clause-after
returns-in-Ok-clause-after c =
    let told = told_addresses c.args.list.now c.args.from.now in
    c.apply_redirect.ensures.after _ (is_found c.args.self.now c.args.tag.now told c.in-Ok.extension c.in-Ok.ensures.extension)
    ∙ left_is c.args.self.now c.args.tag.now told c.in-Ok.extension c.in-Ok.ensures.extension c.args.moment

use Rattle.std.proofs.Common.{◌≡◌, ◌≤◌, ℕ, ◌+◌, length, refl, sym, subst, ap, ◌∙◌}
use Rattle.translators.specs.Mappings.{Call, from_to}
use Rattle.translators.specs.Places.{MappingList}
use Rattle.translators.specs.Translator.{TranslatorState}
use Rattle.translators.specs.Undoing.{WentOut}
use Rattle.translators.specs.declared.news.News.{News}
use Rattle.translators.proofs.Undo.{list_of, mapping_made, host_made, nothing_made, all_back, fits_back}
use Rattle.translators.proofs.translator.Translator.take_back.Goals as goal

pub take_host_back-requires : goal.take_host_back-requires
take_host_back-requires c =
    let call : Call = from_to c.args.inner.now c.args.to.now in
    let t = c.self.inside in
    let after : TranslatorState = record { mapping = t.mappings.rule; filter = t.filter; host = t.host; first = t.first; mappings = t.mappings.list } in
    let went = subst (λ (s : TranslatorState). WentOut c.requires.0 call c.args.news s) (sym c.self.view_is) c.requires.1 in
    (list_of c.requires.0, host_made c.requires.0 after call c.args.news went c.in-NewHost.is)

pub invariant_of-self : goal.invariant_of-self
invariant_of-self c =
    let call : Call = from_to c.args.inner.now c.args.to.now in
    let t = c.self.inside in
    let after : TranslatorState = record { mapping = t.mappings.rule; filter = t.filter; host = t.host; first = t.first; mappings = t.mappings.list } in
    let b = c.requires.0 in
    let went = subst (λ (s : TranslatorState). WentOut b call c.args.news s) (sym c.self.view_is) c.requires.1 in
    fits_back b after call c.args.news went c.take_host_back.new.self (c.take_host_back.ensures (list_of b) (host_made b after call c.args.news went c.in-NewHost.is)) c.self.invariant

pub take_mapping_back-requires : goal.take_mapping_back-requires
take_mapping_back-requires c =
    let call : Call = from_to c.args.inner.now c.args.to.now in
    let t = c.self.inside in
    let after : TranslatorState = record { mapping = t.mappings.rule; filter = t.filter; host = t.host; first = t.first; mappings = t.mappings.list } in
    let went = subst (λ (s : TranslatorState). WentOut c.requires.0 call c.args.news s) (sym c.self.view_is) c.requires.1 in
    (list_of c.requires.0, mapping_made c.requires.0 after call c.args.news went c.in-NewMapping.is)

pub invariant_of-self-in-NewMapping : goal.invariant_of-self-in-NewMapping
invariant_of-self-in-NewMapping c =
    let call : Call = from_to c.args.inner.now c.args.to.now in
    let t = c.self.inside in
    let after : TranslatorState = record { mapping = t.mappings.rule; filter = t.filter; host = t.host; first = t.first; mappings = t.mappings.list } in
    let b = c.requires.0 in
    let went = subst (λ (s : TranslatorState). WentOut b call c.args.news s) (sym c.self.view_is) c.requires.1 in
    fits_back b after call c.args.news went c.take_mapping_back.new.self (c.take_mapping_back.ensures (list_of b) (mapping_made b after call c.args.news went c.in-NewMapping.is)) c.self.invariant

pub returns-in-Nothing : goal.returns-in-Nothing
returns-in-Nothing c = λ before went. nothing_made before c.args.self.now (from_to c.args.inner.now c.args.to.now) c.args.news went c.in-Nothing.is

pub returns-in-NewHost : goal.returns-in-NewHost
returns-in-NewHost c = λ before went.
    let call : Call = from_to c.args.inner.now c.args.to.now in
    let t = c.self.inside in
    let after : TranslatorState = record { mapping = t.mappings.rule; filter = t.filter; host = t.host; first = t.first; mappings = t.mappings.list } in
    let here = subst (λ (s : TranslatorState). WentOut before call c.args.news s) (sym c.self.view_is) went in
    all_back before after call c.args.news here c.take_host_back.new.self (c.take_host_back.ensures (list_of before) (host_made before after call c.args.news here c.in-NewHost.is))

pub returns-in-NewMapping : goal.returns-in-NewMapping
returns-in-NewMapping c = λ before went.
    let call : Call = from_to c.args.inner.now c.args.to.now in
    let t = c.self.inside in
    let after : TranslatorState = record { mapping = t.mappings.rule; filter = t.filter; host = t.host; first = t.first; mappings = t.mappings.list } in
    let here = subst (λ (s : TranslatorState). WentOut before call c.args.news s) (sym c.self.view_is) went in
    all_back before after call c.args.news here c.take_mapping_back.new.self (c.take_mapping_back.ensures (list_of before) (mapping_made before after call c.args.news here c.in-NewMapping.is))

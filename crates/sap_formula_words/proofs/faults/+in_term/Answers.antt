use Rattle.std.proofs.Common.{rules, ◌≡◌, Err, ap, sym, ◌∙◌}
use Rattle.std.specs.Option.{option_copied}
use Rattle.sap_terms.specs.View.{tree}
use Rattle.sap_formula.specs.Parts.{term_parts}
use Rattle.sap_formula_words.specs.code.Faulty.{is_faulty, first_of_all, scope_of}
use Rattle.sap_formula_words.proofs.Near.{symbol_found, symbol_goes_on}
use Rattle.sap_formula_words.proofs.faults.+in_term.Goals as goal

pub in_term-returns-in_err-before-in-App : goal.in_term-returns-in_err-before-in-App
in_term-returns-in_err-before-in-App t c =
    let a = c.args.aim.now in
    let p = is_faulty a.sig.now a.which a.name.now in
    let s = scope_of (option_copied c.args.inner) in
    let found : first_of_all (is_faulty a.sig.now a.which a.name.now) (term_parts (scope_of (option_copied c.args.inner)) (tree c.args.t.now)) c.args.before ≡ Err c.in_err-before-in-App.field-0.0 =
    ap (λ u. first_of_all p (term_parts s (tree u)) c.args.before) c.in-App.is
    ∙ symbol_found p s c.in-App.f c.in-App.ts c.args.before c.in_err-before-in-App.field-0.0 (sym c.past_symbol.ensures ∙ c.in_err-before-in-App.was) in
    rw found (search rules)

pub in_term-returns-in_ok-before-in-App : goal.in_term-returns-in_ok-before-in-App
in_term-returns-in_ok-before-in-App t c =
    let a = c.args.aim.now in
    let p = is_faulty a.sig.now a.which a.name.now in
    let s = scope_of (option_copied c.args.inner) in
    c.in_terms.ensures ∙ sym (symbol_goes_on p s c.in-App.f c.in-App.ts c.args.before c.in_ok-before-in-App.before (sym c.past_symbol.ensures ∙ c.in_ok-before-in-App.was))
    ∙ ap (λ u. first_of_all p (term_parts s (tree u)) c.args.before) (sym c.in-App.is)

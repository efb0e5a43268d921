use Rattle.std.proofs.Common.{◌≡◌, ℕ, List, Option, Bor, Some, Ok, true, drop, refl, sym, ap, subst, ◌∙◌}
use Rattle.std.specs.Prelude.{codes}
use Rattle.sap_terms.specs.Signature.{Sig}
use Rattle.sap_terms.specs.Tree.{Tree}
use Rattle.sap_terms.specs.declared.mem.Mem.{Mem}
use Rattle.sap_terms.specs.View.{tree}
use Rattle.sap_text.specs.declared.token.Token.{Token}
use Rattle.sap_grammar.specs.Reading.{Gives, Read, after, past}
use Rattle.sap_grammar.specs.TermReading.{short_term}
use Rattle.sap_grammar.specs.Words.{Word, starts, words_of}
use Rattle.sap_draft.specs.code.ProcessReading.{Choosing, by_test, equality, up_to}
use Rattle.sap_draft.specs.code.ProcessView.{chosen}
use Rattle.sap_draft.specs.declared.limits.TheConstants.{FILE_LIMITS}
use Rattle.sap_grammar.proofs.ReadingLaws.Tokens.{words-drop}
use Rattle.sap_draft.proofs.process.choice.read_equality.Goals as goal

-- behind the mark and a term, up to `then`
up_to_then : (g : Sig) (t u : Tree) (ws zs : List Word) (made : Choosing) → starts (codes "=") ws ≡ true → short_term g FILE_LIMITS (drop 1 ws) ≡ Some (u, zs) → made ≡ by_test t u → equality g FILE_LIMITS t ws ≡ up_to (codes "then") made zs
unfolding past after
up_to_then g t u ws zs made s h e = rw (s, h, e) refl

-- what was given, where something was read
gave : {X Y : Type 0} (z : List ℕ) (view : X → Y) (o : Option (X × Bor (List Token))) (p : X × Bor (List Token)) (read : Read Y) → o ≡ Some p → Gives {E = Mem} z view (Ok o) read → read ≡ Some (view p.0, words_of z p.1.now)
gave {X} z view o p read e h = subst (λ (x : Option (X × Bor (List Token))). Gives {E = Mem} z view (Ok x) read) e h

pub returns-in_ok-choice-in-Ok-Some : goal.returns-in_ok-choice-in-Ok-Some
returns-in_ok-choice-in-Ok-Some c =
    let z = c.args.bytes.now in
    let ts = c.args.tokens.now in
    let right = c.in-Ok-Some.right in
    let rest = c.in-Ok-Some.rest.now in
    let starts_so = sym c.starts.ensures ∙ c.if-not-starts.false in
    let behind : drop 1 (words_of z ts) ≡ words_of z c.beyond.result.now = sym (words-drop z 1 ts) ∙ ap (words_of z) (sym c.beyond.ensures) in
    let told = gave z tree c.in-Ok-Some.field-0 (c.in-Ok-Some.right, c.in-Ok-Some.rest) (short_term c.args.sig.now FILE_LIMITS (words_of z c.beyond.result.now)) c.in-Ok-Some.field-0-is c.in-Ok-Some.ensures in
    let read = ap (short_term c.args.sig.now FILE_LIMITS) behind ∙ told in
    subst (λ r. Gives z (λ p. chosen p.value) c.read_up_to.result r) (sym (up_to_then c.args.sig.now (tree c.args.left) (tree right) (words_of z ts) (words_of z rest) (chosen c.in_ok-choice-in-Ok-Some.choice.value) starts_so read c.in_ok-choice-in-Ok-Some.ensures)) c.read_up_to.ensures

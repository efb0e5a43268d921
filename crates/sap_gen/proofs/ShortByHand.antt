-- Short rules of small processes by hand.
use Rattle.std.proofs.Common.{◌≡◌, ◌⊎◌, ℕ, Bool, true, false, List, [], ◌∷◌, length, refl, sym, ap, ◌∙◌}
use Rattle.std.specs.Prelude.{Contains, codes}
use Rattle.std.specs.Str.{bytes_eq}
use Rattle.sap_terms.specs.Reserved.{is_reserved}
use Rattle.sap_terms.specs.Same.{same_trees}
use Rattle.sap_terms.specs.Signature.{Sig, pairs_alone}
use Rattle.sap_terms.specs.Tree.{Tree, more, none, trees_of}
use Rattle.sap_terms.specs.declared.fact.Fact.{Fact}
use Rattle.sap_process.specs.Proc.{Proc}
use Rattle.sap_rule.specs.declared.rule.Rule.{Rule}
use Rattle.sap_translate.specs.Examples.{copied_twice, term_a}
use Rattle.sap_translate.specs.Members.{here, later}
use Rattle.sap_translate.specs.OpenLocks.{UnlocksAreOpen}
use Rattle.sap_translate.specs.PlaceRules.{IsOfPlace}
use Rattle.sap_translate.specs.Scoped.{AreUnreserved}
use Rattle.sap_translate.specs.Sound.{IsSound, SoundParts}
use Rattle.sap_templates.specs.Templates.{init_rule, rules_of}
use Rattle.sap_gen.specs.Short.{AreShort}
use Rattle.sap_gen.specs.ShortExamples as example
use Rattle.sap_gen.specs.code.SettledPlaces.{short_rules}
use Rattle.sap_gen.proofs.Places.Shortening.{process_short, short_one}

no_facts : AreUnreserved []
no_facts f m = elim m [ ]

one_fact : (h : Fact) → is_reserved h.name ≡ false → AreUnreserved (h ∷ [])
one_fact h u f here = u
one_fact h u f (later m) = elim m [ ]

-- what is compared: how many facts the first rule adds, how many the last shows, the names of what is added first, and whether it stays
abbrev added : List Rule → List Fact
added [] = []
added (r ∷ rs) = r.right

abbrev added_second : List Rule → List Fact
added_second [] = []
added_second (r ∷ rs) = added rs

abbrev is_named : List ℕ → List Fact → Bool
is_named n [] = false
is_named n (f ∷ fs) = bytes_eq f.name n

abbrev is_kept : List Fact → Bool
is_kept [] = false
is_kept (f ∷ fs) = f.persistent

abbrev puts_out : Tree → List Fact → Bool
puts_out t [] = false
puts_out t (f ∷ fs) = same_trees (trees_of f.args) (more t none)

module _ (parts : (g : Sig) (p : Proc) → SoundParts g [] p → UnlocksAreOpen [] p → IsSound g p)
    (origin : (p : Proc) (r : Rule) → Contains (rules_of p) r → (r ≡ init_rule) ⊎ IsOfPlace p r) (placed : (p : Proc) (r : Rule) → IsOfPlace p r → Contains (rules_of p) r) where
  walked : (p : Proc) → SoundParts pairs_alone [] p → UnlocksAreOpen [] p → AreShort p (rules_of p) (short_rules p)
  walked p s u = process_short pairs_alone p (parts pairs_alone p s u).0 (origin p) (placed p)

  pub ended : AreShort example.ended (rules_of example.ended) example.ended_short
  ended = walked example.ended tt tt

  pub told : AreShort example.told (rules_of example.told) example.told_short
  told = walked example.told (tt, tt) tt

  pub told_first : AreShort example.told_first (rules_of example.told_first) example.told_first_short
  told_first = walked example.told_first (tt, (here, tt)) tt

  pub copied : AreShort example.copied (rules_of example.copied) example.copied_short
  copied = walked example.copied (tt, tt) tt

  pub twice : AreShort copied_twice (rules_of copied_twice) example.copied_twice_short
  twice = walked copied_twice ((refl, tt), tt) tt

  pub in_order : AreShort example.in_order (rules_of example.in_order) example.in_order_short
  in_order = walked example.in_order (tt, ((tt, (tt, tt)), (tt, tt))) (tt, ((tt, tt), tt))

  pub two_events : AreShort example.two_events (rules_of example.two_events) example.two_events_short
  two_events = walked example.two_events ((refl, tt), ((refl, tt), tt)) tt

  pub idle_rule : AreShort example.idle_rule (rules_of example.idle_rule) example.idle_rule_short
  idle_rule = walked example.idle_rule ((no_facts, no_facts, no_facts, tt), (tt, tt)) tt

  pub adding_rule : AreShort example.adding_rule (rules_of example.adding_rule) example.adding_rule_short
  adding_rule = walked example.adding_rule ((no_facts, one_fact example.p_fact refl, one_fact example.q_fact refl, ((here, tt), ((here, tt), tt))), ((here, tt), tt)) (tt, tt)

  pub two_names : AreShort example.two_names (rules_of example.two_names) example.two_names_short
  two_names = walked example.two_names ((refl, (here, tt)), (refl, (here, tt))) (tt, tt)

  pub channel : AreShort example.channel (rules_of example.channel) example.channel_short
  channel = walked example.channel (refl, (((here, tt, refl), (tt, tt)), ((here, refl, later here), (tt, (later here, tt))))) (tt, (tt, tt))

  pub tested : AreShort example.tested (rules_of example.tested) example.tested_short
  tested = walked example.tested (here, ((here, tt), (here, tt), ((tt, tt), ((refl, tt), tt)))) (tt, (tt, tt))

  pub looked_up : AreShort example.looked_up (rules_of example.looked_up) example.looked_up_short
  looked_up = walked example.looked_up ((tt, refl), (here, tt), tt) (tt, tt)

  pub locked : AreShort example.locked (rules_of example.locked) example.locked_short
  locked = walked example.locked ((tt, refl, ((tt, tt), tt)), ((tt, tt), tt)) (tt, tt)

  -- so others aren't

  -- told apart by a truth value, or by a number
  apart : (p : Proc) (ss zs : List Rule) (test : List Rule → Bool) → AreShort p (rules_of p) ss → test ss ≡ true → test zs ≡ false → AreShort p (rules_of p) zs → ⊥
  apart p ss zs test s one other h =
      let same : test ss ≡ test zs = ap test (short_one p (rules_of p) ss zs s h) in
      let clash : true ≡ false = sym one ∙ same ∙ other in
      cc

  counted : (p : Proc) (ss zs : List Rule) (count : List Rule → ℕ) → AreShort p (rules_of p) ss → (count ss ≡ count zs → ⊥) → AreShort p (rules_of p) zs → ⊥
  counted p ss zs count s n h = n (ap count (short_one p (rules_of p) ss zs s h))

  pub ended_kept : AreShort example.ended (rules_of example.ended) example.ended_kept → ⊥
  ended_kept = counted example.ended example.ended_short example.ended_kept length ended (λ e. cc)

  pub told_as_it_was : AreShort example.told (rules_of example.told) (rules_of example.told) → ⊥
  told_as_it_was = counted example.told example.told_short (rules_of example.told) length told (λ e. cc)

  pub told_one_step : AreShort example.told (rules_of example.told) example.told_one_step → ⊥
  told_one_step = counted example.told example.told_short example.told_one_step length told (λ e. cc)

  pub told_kept : AreShort example.told (rules_of example.told) example.told_kept → ⊥
  told_kept = counted example.told example.told_short example.told_kept length told (λ e. cc)

  pub told_left_out : AreShort example.told (rules_of example.told) example.told_left_out → ⊥
  told_left_out = apart example.told example.told_short example.told_left_out (λ rs. is_named (codes "Out") (added rs)) told refl refl

  pub told_first_dropped : AreShort example.told_first (rules_of example.told_first) example.told_first_dropped → ⊥
  told_first_dropped = apart example.told_first example.told_first_short example.told_first_dropped (λ rs. is_named (codes "Out") (added rs)) told_first refl refl

  pub copied_once : AreShort example.copied (rules_of example.copied) example.copied_once → ⊥
  copied_once = apart example.copied example.copied_short example.copied_once (λ rs. is_named (codes "Semi_") (added rs)) copied refl refl

  pub copied_linear : AreShort example.copied (rules_of example.copied) example.copied_linear → ⊥
  copied_linear = apart example.copied example.copied_short example.copied_linear (λ rs. is_kept (added rs)) copied refl refl

  pub out_of_order : AreShort example.in_order (rules_of example.in_order) example.out_of_order → ⊥
  out_of_order = apart example.in_order example.in_order_short example.out_of_order (λ rs. puts_out term_a (added rs)) in_order refl refl

  pub first_alone : AreShort example.in_order (rules_of example.in_order) example.first_alone → ⊥
  first_alone = counted example.in_order example.in_order_short example.first_alone (λ rs. length (added rs)) in_order (λ e. cc)

  pub events_at_once : AreShort example.two_events (rules_of example.two_events) example.events_at_once → ⊥
  events_at_once = counted example.two_events example.two_events_short example.events_at_once length two_events (λ e. cc)

  pub idle_rule_gone : AreShort example.idle_rule (rules_of example.idle_rule) example.idle_rule_gone → ⊥
  idle_rule_gone = counted example.idle_rule example.idle_rule_short example.idle_rule_gone length idle_rule (λ e. cc)

  pub adding_rule_last : AreShort example.adding_rule (rules_of example.adding_rule) example.adding_rule_last → ⊥
  adding_rule_last = apart example.adding_rule example.adding_rule_short example.adding_rule_last (λ rs. is_named (codes "Out") (added_second rs)) adding_rule refl refl

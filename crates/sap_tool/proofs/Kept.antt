-- However a call ends, the promises are kept.
use Rattle.std.proofs.Common.{◌≡◌, ◌+◌, ◌<◌, ℕ, List, [], ◌∷◌, take, Option, Some, None, refl, sym, subst, ◌∙◌, inl, inr, ◌⊎◌, arith, lit<}
use Rattle.std.specs.Prelude.{Contains, IsSomeAnd, IfSome}
use Rattle.sap_outside.specs.Outside.{IsFetched}
use Rattle.sap_outside.specs.Pieces.{pieces}
use Rattle.sap_outside.specs.RunPieces.{most_run_bytes, IsReadUp}
use Rattle.sap_outside.specs.Stream.{Gained, Failed, CutShort}
use Rattle.sap_refusals.specs.Refusals.{refused_line}
use Rattle.sap_refusals.specs.RunFaultTexts.{run_refused_line}
use Rattle.sap_tool.specs.ToldAtOnce.{IsToldAtOnce}
use Rattle.sap_tool.specs.Call.{Call, FailedOn, Holds}
use Rattle.sap_replay.specs.declared.way.Way.{Way}
use Rattle.sap_tool.specs.Commands.{Command, compile, Input, alone, and_run, run_alone, file_of, run_of, HowRead, in_pieces, at_once, how_read, limit_of, IsUnknown, behaviour_of, Accepts, Refuses, RefusesRun, TakesRun, Allows}
use Rattle.sap_answer.specs.Answer.{Answer, gives, tells, status_of, read_fault_text, IsPut, whole, broken, wanting, IsLast, complete, cut, write_fault_text, memory_text, no_memory}
use Rattle.sap_tool.specs.Answers.{IsAnswerTo, allowed, refused, run_refused, Asks, for_file, IsFileFetched, WasReadSo, WasRunRead, Fetched, IsRunNext, FailedOnFile, FailedOnRun, IsAnswer, IsBegun, to_input, told_at_once, usage, unread, unread_run, Ended, answered, unanswered}
use Rattle.sap_tool.specs.Promises as promised
use Rattle.sap_tool.proofs.Asked.{one_command, no_command_is_told}
use Rattle.sap_tool.proofs.Inputs.{Laws, is_sound, never_run, one_allowed, fetched_part, part_allows}
use Rattle.sap_tool.proofs.Parts.{fetched_is_up, joined_part}
use Rattle.sap_tool.proofs.AtOnce.{one_told}
use Rattle.sap_tool.proofs.Some.{of_both_some, none_has}
use Rattle.sap_tool.proofs.Sound.{IsWhole, IsPartOf}

-- a word whose put wasn't cut short is there whole
whole_word : {Cut : Type 0} (word last : List ℕ) → (Cut → ⊥) → IsLast Cut word last → last ≡ word
whole_word word _ uncut complete = refl
whole_word word _ uncut (cut n c) = absurd (uncut c)

-- the answers that a call may have whose words ask for this command
data AnswersAsked (c : Call) (k : Command) : Answer → Type 0 where
  of_input : {a : Answer} (read : Input) → Fetched c k read → IsAnswerTo k read a → AnswersAsked c k a
  of_file_fault : FailedOnFile c k → AnswersAsked c k (tells 4 read_fault_text)
  of_run_fault : IsRunNext c k → FailedOnRun c k → AnswersAsked c k (tells 4 read_fault_text)

answers_asked : (c : Call) (k : Command) → Asks c k → (a : Answer) → IsAnswer c a → AnswersAsked c k a
answers_asked c k asked a (to_input l read asks fetched is) =
    let both = subst (λ (m : Command). Fetched c m read × IsAnswerTo m read a) (one_command c.words l k asks asked) (fetched, is) in
    of_input read both.0 both.1
answers_asked c k asked _ (told_at_once text asks none) = absurd (no_command_is_told c.words k text asked asks)
answers_asked c k asked _ (usage u none) = absurd (u.no_command k asked)
answers_asked c k asked _ (unread l asks f n) = of_file_fault (subst (λ (m : Command). FailedOnFile c m) (one_command c.words l k asks asked) f)
answers_asked c k asked _ (unread_run l asks next f n) =
    let both = subst (λ (m : Command). IsRunNext c m × FailedOnRun c m) (one_command c.words l k asks asked) (next, f) in
    of_run_fault both.0 both.1

module _ (laws : Laws) (c : Call) where
  statuses : (s : ℕ) → Ended (IsAnswer c) (IsBegun c) c.out c.err s → Contains (0 ∷ 1 ∷ 2 ∷ 3 ∷ 4 ∷ 5 ∷ 6 ∷ []) s
  statuses s (answered a is (whole e w)) = at is e where
    at : {b : Answer} → IsAnswer c b → s ≡ status_of b → Contains (0 ∷ 1 ∷ 2 ∷ 3 ∷ 4 ∷ 5 ∷ 6 ∷ []) s
    at (to_input k input asks fetched (allowed t)) e = (0, lit< tt, sym e)
    at (to_input k input asks fetched (refused why r)) e = (1, lit< tt, sym e)
    at (to_input k input asks fetched (run_refused why r)) e = (2, lit< tt, sym e)
    at (told_at_once text asks none) e = (0, lit< tt, sym e)
    at (usage u n) e = (3, lit< tt, sym e)
    at (unread k asks f n) e = (4, lit< tt, sym e)
    at (unread_run k asks next f n) e = (4, lit< tt, sym e)
  statuses s (answered a is (broken taken last e b p l)) = (5, lit< tt, sym e)
  statuses s (answered a is (wanting taken last e b p l)) = (6, lit< tt, sym e)
  statuses s (unanswered begun (no_memory last e none word l)) = (6, lit< tt, sym e)

  given : (s : ℕ) → Ended (IsAnswer c) (IsBegun c) c.out c.err s → s ≡ 0 → promised.Given c ⊎ promised.GivenAtOnce c
  given s (answered (tells n text) is (whole e w)) z = absurd (at is (sym e ∙ z)) where
    at : {m : ℕ} {t : List ℕ} → IsAnswer c (tells m t) → m ≡ 0 → ⊥
    at (to_input k input asks fetched (refused why r)) e = omega (arith, e)
    at (to_input k input asks fetched (run_refused why r)) e = omega (arith, e)
    at (usage u n) e = omega (arith, e)
    at (unread k asks f n) e = omega (arith, e)
    at (unread_run k asks next f n) e = omega (arith, e)
  given s (answered (gives text) (to_input k input asks fetched (allowed t)) (whole e w)) z = inl (record {
    command = k;
    input = input;
    text = text;
    asked = asks;
    fetched = fetched;
    allowed = t;
    means = (is_sound laws k).means input text t;
    out = w.0;
    err = w.1;
  })
  given s (answered _ (told_at_once text asks none) (whole e w)) z = inr (record { text = text; asked = asks; fetched = none; out = w.0; err = w.1 })
  given s (answered a is (broken taken last e b p l)) z = absurd (omega arith)
  given s (answered a is (wanting taken last e b p l)) z = absurd (omega arith)
  given s (unanswered begun (no_memory last e none word l)) z = absurd (omega arith)

  told : (n s : ℕ) → 0 < n → n < 5 → Ended (IsAnswer c) (IsBegun c) c.out c.err s → s ≡ n → promised.Told c n
  told n s more less (answered (gives text) is (whole e w)) z = absurd (omega (arith, e, z))
  told n s more less (answered (tells m text) is (whole e w)) z =
      record { text = text; cause = subst (λ (i : ℕ). IsAnswer c (tells i text)) (sym e ∙ z) is; out = w.0; err = w.1 }
  told n s more less (answered a is (broken taken last e b p l)) z = absurd (omega arith)
  told n s more less (answered a is (wanting taken last e b p l)) z = absurd (omega arith)
  told n s more less (unanswered begun (no_memory last e none word l)) z = absurd (omega arith)

  -- what is told or given whole has a status below 5
  below_five : {a : Answer} → IsAnswer c a → status_of a < 5
  below_five (to_input k input asks fetched (allowed t)) = lit< tt
  below_five (to_input k input asks fetched (refused why r)) = lit< tt
  below_five (to_input k input asks fetched (run_refused why r)) = lit< tt
  below_five (told_at_once text asks none) = lit< tt
  below_five (usage u n) = lit< tt
  below_five (unread k asks f n) = lit< tt
  below_five (unread_run k asks next f n) = lit< tt

  unwritten : (s : ℕ) → Ended (IsAnswer c) (IsBegun c) c.out c.err s → s ≡ 5 → promised.Unwritten c
  unwritten s (answered a is (whole e w)) z = let l = below_five is in absurd (omega (arith, l, e, z))
  unwritten s (answered a is (broken taken last e b p l)) z = record { answer = a; cause = is; broken = b; taken = taken; last = last; part = p; word = l }
  unwritten s (answered a is (wanting taken last e b p l)) z = absurd (omega arith)
  unwritten s (unanswered begun (no_memory last e none word l)) z = absurd (omega arith)

  wanting_of : (s : ℕ) → Ended (IsAnswer c) (IsBegun c) c.out c.err s → s ≡ 6 → promised.Wanting c
  wanting_of s (answered a is (whole e w)) z = let l = below_five is in absurd (omega (arith, l, e, z))
  wanting_of s (answered a is (broken taken last e b p l)) z = absurd (omega arith)
  wanting_of s (answered a is (wanting taken last e b p l)) z = promised.while_put a taken last is b p l
  wanting_of s (unanswered begun (no_memory last e none word l)) z = promised.before_all last begun none word l

  last_word : (s : ℕ) → Ended (IsAnswer c) (IsBegun c) c.out c.err s → (CutShort c.err → ⊥)
      → (s ≡ 5 → Gained c.err 1 write_fault_text) × (s ≡ 6 → Gained c.err 1 memory_text)
  last_word s (answered a is (whole e w)) uncut =
      let l = below_five is in (λ z. absurd (omega (arith, l, e, z)), λ z. absurd (omega (arith, l, e, z)))
  last_word s (answered (gives text) is (broken taken last e b p l)) uncut =
      (λ z. subst (λ (y : List ℕ). Gained c.err 1 y) (whole_word write_fault_text last uncut l) p.1, λ z. absurd (omega (arith, e, z)))
  last_word s (answered (tells n text) is (broken taken last e b p l)) uncut = absurd (uncut (inl b))
  last_word s (answered (gives text) is (wanting taken last e b p l)) uncut =
      (λ z. absurd (omega (arith, e, z)), λ z. subst (λ (y : List ℕ). Gained c.err 1 y) (whole_word memory_text last uncut l) p.1)
  last_word s (answered (tells n text) is (wanting taken last e b p l)) uncut = absurd (uncut (inr b))
  last_word s (unanswered begun (no_memory last e none word l)) uncut =
      (λ z. absurd (omega (arith, e, z)), λ z. subst (λ (y : List ℕ). Gained c.err 1 y) (whole_word memory_text last uncut l) word)

  -- where an answer for err was put, its status, 5 for a fault of err, or 6
  told_ends : (s n : ℕ) (text : List ℕ) → IsPut (tells n text) c.out c.err s
      → ((s ≡ n) × Gained c.err 1 text) ⊎ ((s ≡ 5) × Failed c.err) ⊎ (s ≡ 6)
  told_ends s n text (whole e w) = inl (e, w.1)
  told_ends s n text (broken taken last e b p l) = inr (inl (e, b))
  told_ends s n text (wanting taken last e b p l) = inr (inr e)

  must_tell_usage : (s : ℕ) → Ended (IsAnswer c) (IsBegun c) c.out c.err s → IsUnknown c.words → (s ≡ 3) ⊎ ((s ≡ 5) × Failed c.err) ⊎ (s ≡ 6)
  must_tell_usage s (answered a (to_input k input asks fetched is) put) unknown = absurd (unknown.no_command k asks)
  must_tell_usage s (answered _ (told_at_once text asks none) put) unknown = absurd (unknown.no_text text asks)
  must_tell_usage s (answered _ (usage u n) put) unknown = elim (told_ends s 3 _ put) [ inl h ↦ inl h.0 | inr h ↦ inr h ]
  must_tell_usage s (answered _ (unread k asks f n) put) unknown = absurd (unknown.no_command k asks)
  must_tell_usage s (answered _ (unread_run k asks next f n) put) unknown = absurd (unknown.no_command k asks)
  must_tell_usage s (unanswered begun (no_memory last e none word l)) unknown = inr (inr e)

  -- where no answer is a text for out, out has nothing
  nothing_given : (s : ℕ) → Ended (IsAnswer c) (IsBegun c) c.out c.err s → ((text : List ℕ) → IsAnswer c (gives text) → ⊥) → Gained c.out 0 []
  nothing_given s (answered (gives text) is put) never_gives = absurd (never_gives text is)
  nothing_given s (answered (tells n text) is (whole e w)) never_gives = w.0
  nothing_given s (answered (tells n text) is (broken taken last e b p l)) never_gives = p.0
  nothing_given s (answered (tells n text) is (wanting taken last e b p l)) never_gives = p.0
  nothing_given s (unanswered begun (no_memory last e none word l)) never_gives = none

  -- words that ask for nothing are given none
  unknown_gives : IsUnknown c.words → (text : List ℕ) → IsAnswer c (gives text) → ⊥
  unknown_gives unknown text (to_input k input asks fetched t) = unknown.no_command k asks
  unknown_gives unknown _ (told_at_once text asks none) = unknown.no_text text asks

  -- Of a call whose words ask for this command.
  module _ (k : Command) (asked : Asks c k) where
    -- what was fetched is the first part of what is held
    fetched_is : (bytes x : List ℕ) → promised.HoldsFile c k bytes → IsFileFetched c k x → x ≡ take (limit_of k + 1) bytes
    fetched_is bytes x held fetched =
        of_both_some (file_of k) (λ (name : List ℕ). Holds c.before.holds name bytes) (λ (name : List ℕ). IsFetched c.before.holds name (limit_of k) x)
        (λ (name : List ℕ) (h : Holds c.before.holds name bytes) (f : IsFetched c.before.holds name (limit_of k) x). fetched_part c.before.holds (limit_of k) name bytes x h f)
        held fetched

    -- and the run that was read is what is held, read up
    read_is_up : (way : HowRead) (run z y : List ℕ) → Holds c.before.holds run z → WasReadSo way c.before.holds run (for_file k) c.before.asked c.after.asked y → IsReadUp z y
    read_is_up in_pieces run z y h w = joined_part c.before.holds run z y h w.joined
    read_is_up at_once run z y h w = fetched_is_up z y (fetched_part c.before.holds most_run_bytes run z y h w.0)

    run_is_up : (z y : List ℕ) → promised.HoldsRun c k z → WasRunRead c k y → IsReadUp z y
    run_is_up z y held was =
        of_both_some (run_of k) (λ (run : List ℕ). Holds c.before.holds run z) (λ (run : List ℕ). WasReadSo (how_read k) c.before.holds run (for_file k) c.before.asked c.after.asked y)
        (λ (run : List ℕ) (h : Holds c.before.holds run z) (w : WasReadSo (how_read k) c.before.holds run (for_file k) c.before.asked c.after.asked y).
        read_is_up (how_read k) run z y h w)
        held was

    -- so what was read, where it is whole, is a part of what is held
    part_of : (held read : Input) → promised.HoldsInput c k held → Fetched c k read → IsWhole (behaviour_of k) read → IsPartOf (limit_of k) held read
    part_of (alone bytes) (alone x) h f w = fetched_is bytes x h.0 f.0
    part_of (alone bytes) (and_run x y) h f w = absurd (none_has (run_of k) _ h.1 f.1)
    part_of (alone bytes) (run_alone y) h f w = absurd (none_has (file_of k) _ w h.0)
    part_of (and_run bytes z) (alone x) h f w = absurd (none_has (run_of k) _ w.1 h.1)
    part_of (and_run bytes z) (and_run x y) h f w = (fetched_is bytes x h.0 f.0, run_is_up z y h.1 f.1)
    part_of (and_run bytes z) (run_alone y) h f w = absurd (none_has (file_of k) _ w h.0)
    part_of (run_alone z) (alone x) h f w = absurd (none_has (file_of k) _ h.0 f.0)
    part_of (run_alone z) (and_run x y) h f w = absurd (none_has (file_of k) _ h.0 f.0)
    part_of (run_alone z) (run_alone y) h f w = run_is_up z y h.1 f

    -- bytes that were fetched are accepted where those that are held are, and refused likewise
    fetched_is_accepted : (bytes x : List ℕ) → promised.HoldsFile c k bytes → IsFileFetched c k x → Accepts k bytes → Accepts k x
    fetched_is_accepted bytes x h f a = subst (λ (y : List ℕ). Accepts k y) (sym (fetched_is bytes x h f)) ((is_sound laws k).fetched.part_accepted bytes a)

    fetched_is_refused : (bytes x why : List ℕ) → promised.HoldsFile c k bytes → IsFileFetched c k x → Refuses k bytes why → Refuses k x why
    fetched_is_refused bytes x why h f r = subst (λ (y : List ℕ). Refuses k y why) (sym (fetched_is bytes x h f)) ((is_sound laws k).fetched.part_refused bytes why r)

    held_is_refused : (bytes x why : List ℕ) → promised.HoldsFile c k bytes → IsFileFetched c k x → Refuses k x why → Refuses k bytes why
    held_is_refused bytes x why h f r = (is_sound laws k).fetched.by_part bytes why (subst (λ (y : List ℕ). Refuses k y why) (fetched_is bytes x h f) r)

    -- of what is held a cause refuses the file that was fetched
    file_is_refused : (held : Input) (x why : List ℕ) → promised.HoldsInput c k held → IsFileFetched c k x → Refuses k x why → promised.RefusesFile k held why
    file_is_refused (alone bytes) x why h f r = held_is_refused bytes x why h.0 f r
    file_is_refused (and_run bytes z) x why h f r = held_is_refused bytes x why h.0 f r
    file_is_refused (run_alone z) x why h f r = absurd (none_has (file_of k) _ h.0 f)

    -- what is whole has no such file
    whole_never : (input : Input) (why : List ℕ) → IsWhole (behaviour_of k) input → promised.RefusesFile k input why → ⊥
    whole_never (alone bytes) why w r = (is_sound laws k).fetched.never bytes why w.0 r
    whole_never (and_run bytes z) why w r = (is_sound laws k).fetched.never bytes why w r
    whole_never (run_alone z) why w r = r

    -- where a file is held that a cause refuses, what was read isn't whole, and it isn't the run's turn
    module _ (bytes why : List ℕ) (held : promised.HoldsFile c k bytes) (r : Refuses k bytes why) where
      not_whole : (read : Input) → Fetched c k read → IsWhole (behaviour_of k) read → ⊥
      not_whole (alone x) f w = (is_sound laws k).fetched.never x why w.0 (fetched_is_refused bytes x why held f.0 r)
      not_whole (and_run x y) f w = (is_sound laws k).fetched.never x why w (fetched_is_refused bytes x why held f.0 r)
      not_whole (run_alone y) f w = none_has (file_of k) _ w held

      not_next : IsRunNext c k → ⊥
      not_next next = at (file_of k) held next where
        at : (o : Option (List ℕ)) → IsSomeAnd o (λ name. Holds c.before.holds name bytes)
            → IfSome o (λ name. (x : List ℕ) × IsFetched c.before.holds name (limit_of k) x × Accepts k x) → ⊥
        at None h n = h
        at (Some name) h n =
            (is_sound laws k).fetched.never n.0 why n.2
            (subst (λ (y : List ℕ). Refuses k y why) (sym (fetched_part c.before.holds (limit_of k) name bytes n.0 h n.1)) ((is_sound laws k).fetched.part_refused bytes why r))

      abbrev IsFileRefused : ℕ → Type 0
      IsFileRefused s = ((s ≡ 1) × Gained c.err 1 (refused_line why)) ⊎ ((s ≡ 4) × FailedOnFile c k) ⊎ ((s ≡ 5) × Failed c.err) ⊎ (s ≡ 6)

      refused_gives : (text : List ℕ) → IsAnswer c (gives text) → ⊥
      refused_gives text is = at (gives text) (answers_asked c k asked (gives text) is) refl where
        at : (a : Answer) → AnswersAsked c k a → a ≡ gives text → ⊥
        at _ (of_input read f (allowed {text = other} t)) e = not_whole read f ((is_sound laws k).allowed_is_whole read other t)
        at _ (of_input read f (refused other o)) e = cc (e)
        at _ (of_input read f (run_refused other o)) e = cc (e)
        at _ (of_file_fault f) e = cc (e)
        at _ (of_run_fault next f) e = cc (e)

      must_refuse : (s : ℕ) → Ended (IsAnswer c) (IsBegun c) c.out c.err s → IsFileRefused s
      must_refuse s (unanswered begun (no_memory last e none word l)) = inr (inr (inr e))
      must_refuse s (answered a is put) = at a (answers_asked c k asked a is) put where
        at : (b : Answer) → AnswersAsked c k b → IsPut b c.out c.err s → IsFileRefused s
        at _ (of_input read f (allowed {text = other} t)) p = absurd (not_whole read f ((is_sound laws k).allowed_is_whole read other t))
        at _ (of_input _ f (refused {bytes = x} other o)) p =
            let same : other ≡ why = (is_sound laws k).fetched.one x other why o (fetched_is_refused bytes x why held f.0 r) in
            elim (told_ends s 1 (refused_line other) p) [
              | inl h ↦ inl (h.0, subst (λ (y : List ℕ). Gained c.err 1 (refused_line y)) same h.1)
              | inr h ↦ inr (inr h)
            ]
        at _ (of_input read f (run_refused other o)) p = absurd (not_whole read f ((is_sound laws k).refused_is_whole read other o))
        at _ (of_file_fault f) p = elim (told_ends s 4 _ p) [ inl h ↦ inr (inl (h.0, f)) | inr h ↦ inr (inr h) ]
        at _ (of_run_fault next f) p = absurd (not_next next)

    -- where the shelf holds what the command reads
    module _ (held : Input) (holds : promised.HoldsInput c k held) where
      -- what was read of it
      read_part : (read : Input) → Fetched c k read → IsWhole (behaviour_of k) read → IsPartOf (limit_of k) held read
      read_part read f w = part_of held read holds f w

      module _ (why : List ℕ) (r : RefusesRun k held why) where
        refused_run : (read : Input) → Fetched c k read → IsWhole (behaviour_of k) read → RefusesRun k read why
        refused_run read f w = (is_sound laws k).refused_as_read held read why (read_part read f w) r

        not_allowed : (read : Input) (text : List ℕ) → Fetched c k read → Allows k read text → ⊥
        not_allowed read text f t = never_run laws k read text why t (refused_run read f ((is_sound laws k).allowed_is_whole read text t))

        abbrev IsRunRefused : ℕ → Type 0
        IsRunRefused s = ((s ≡ 2) × Gained c.err 1 (run_refused_line why)) ⊎ ((s ≡ 4) × promised.FailedOnNamed c k) ⊎ ((s ≡ 5) × Failed c.err) ⊎ (s ≡ 6)

        refused_run_gives : (text : List ℕ) → IsAnswer c (gives text) → ⊥
        refused_run_gives text is = at (gives text) (answers_asked c k asked (gives text) is) refl where
          at : (a : Answer) → AnswersAsked c k a → a ≡ gives text → ⊥
          at _ (of_input read f (allowed {text = other} t)) e = not_allowed read other f t
          at _ (of_input read f (refused other o)) e = cc (e)
          at _ (of_input read f (run_refused other o)) e = cc (e)
          at _ (of_file_fault f) e = cc (e)
          at _ (of_run_fault next f) e = cc (e)

        must_refuse_run : (s : ℕ) → Ended (IsAnswer c) (IsBegun c) c.out c.err s → IsRunRefused s
        must_refuse_run s (unanswered begun (no_memory last e none word l)) = inr (inr (inr e))
        must_refuse_run s (answered a is put) = at a (answers_asked c k asked a is) put where
          at : (b : Answer) → AnswersAsked c k b → IsPut b c.out c.err s → IsRunRefused s
          at _ (of_input read f (allowed {text = other} t)) p = absurd (not_allowed read other f t)
          at _ (of_input _ f (refused {bytes = x} other o)) p =
              absurd (whole_never held other ((is_sound laws k).refused_is_whole held why r) (file_is_refused held x other holds f.0 o))
          at _ (of_input read f (run_refused other o)) p =
              let same : other ≡ why = (is_sound laws k).one_run_why read other why o (refused_run read f ((is_sound laws k).refused_is_whole read other o)) in
              elim (told_ends s 2 (run_refused_line other) p) [
                | inl h ↦ inl (h.0, subst (λ (w : List ℕ). Gained c.err 1 (run_refused_line w)) same h.1)
                | inr h ↦ inr (inr h)
              ]
          at _ (of_file_fault f) p = elim (told_ends s 4 _ p) [ inl h ↦ inr (inl (h.0, inl f)) | inr h ↦ inr (inr h) ]
          at _ (of_run_fault next f) p = elim (told_ends s 4 _ p) [ inl h ↦ inr (inl (h.0, inr f)) | inr h ↦ inr (inr h) ]

      -- where no count of a name rose, nor out's, a text is there unless a cause refuses what is held
      module _ (unrefused : (why : List ℕ) → promised.RefusesInput k held why → ⊥) (sound : promised.FailedOnNamed c k → ⊥) (open_out : Failed c.out → ⊥) where
        must_answer : (s : ℕ) → Ended (IsAnswer c) (IsBegun c) c.out c.err s → (s ≡ 0) ⊎ (s ≡ 6)
        must_answer s (unanswered begun (no_memory last e none word l)) = inr e
        must_answer s (answered a is put) = at a (answers_asked c k asked a is) put where
          at : (b : Answer) → AnswersAsked c k b → IsPut b c.out c.err s → (s ≡ 0) ⊎ (s ≡ 6)
          at _ (of_input read f (allowed t)) (whole e w) = inl e
          at _ (of_input read f (allowed t)) (broken taken last e b p w) = absurd (open_out b)
          at _ (of_input read f (allowed t)) (wanting taken last e b p w) = inr e
          at _ (of_input _ f (refused {bytes = x} other o)) p = absurd (unrefused other (inl (file_is_refused held x other holds f.0 o)))
          at _ (of_input read f (run_refused other o)) p =
              let back = (is_sound laws k).refused_as_held held read other (read_part read f ((is_sound laws k).refused_is_whole read other o)) o in
              absurd (unrefused back.0 (inr back.1))
          at _ (of_file_fault f) p = absurd (sound (inl f))
          at _ (of_run_fault next f) p = absurd (sound (inr f))

      -- what is taken, no cause refuses
      must_take : TakesRun k held → (promised.FailedOnNamed c k → ⊥) → (Failed c.out → ⊥) → (s : ℕ) → Ended (IsAnswer c) (IsBegun c) c.out c.err s → (s ≡ 0) ⊎ (s ≡ 6)
      must_take takes sound open_out = must_answer unrefused sound open_out where
        unrefused : (why : List ℕ) → promised.RefusesInput k held why → ⊥
        unrefused why (inl r) = whole_never held why ((is_sound laws k).taken_is_whole held takes) r
        unrefused why (inr r) = (is_sound laws k).never_taken held why takes r

  given_text : (s : ℕ) (text other : List ℕ) → other ≡ text → (Failed c.out → ⊥) → IsPut (gives other) c.out c.err s → ((s ≡ 0) × Gained c.out (pieces text) text) ⊎ (s ≡ 6)
  given_text s text other same open_out (whole e w) = inl (e, subst (λ (y : List ℕ). Gained c.out (pieces y) y) same w.0)
  given_text s text other same open_out (broken taken last e b p l) = absurd (open_out b)
  given_text s text other same open_out (wanting taken last e b p l) = inr e

  module _ (text : List ℕ) (asked : IsToldAtOnce c.words text) where
    must_tell : (s : ℕ) → Ended (IsAnswer c) (IsBegun c) c.out c.err s → (Failed c.out → ⊥) → ((s ≡ 0) × Gained c.out (pieces text) text) ⊎ (s ≡ 6)
    must_tell s (answered _ (to_input k input asks fetched is) put) open_out = absurd (no_command_is_told c.words k text asks asked)
    must_tell s (answered _ (told_at_once other asks none) put) open_out =
        given_text s text other (one_told laws.one_page c.words other text asks asked) open_out put
    must_tell s (answered _ (usage u none) put) open_out = absurd (u.no_text text asked)
    must_tell s (answered _ (unread k asks f none) put) open_out = absurd (no_command_is_told c.words k text asks asked)
    must_tell s (answered _ (unread_run k asks next f none) put) open_out = absurd (no_command_is_told c.words k text asks asked)
    must_tell s (unanswered begun (no_memory last e none word l)) open_out = inr e

  module _ (way : Way) (file bytes : List ℕ) (asked : Asks c (compile way file)) (held : Holds c.before.holds file bytes) where
    abbrev k : Command
    k = compile way file

    must_give : (s : ℕ) → Ended (IsAnswer c) (IsBegun c) c.out c.err s → (text : List ℕ) → Allows k (alone bytes) text → (FailedOn c file → ⊥) → (Failed c.out → ⊥)
        → ((s ≡ 0) × Gained c.out (pieces text) text) ⊎ (s ≡ 6)
    must_give s (unanswered begun (no_memory last e none word l)) text t sound open_out = inr e
    must_give s (answered a is put) text t sound open_out = at a (answers_asked c k asked a is) put where
      part : (x : List ℕ) → IsFetched c.before.holds file (limit_of k) x → Allows k (alone x) text
      part x f = subst (λ (y : List ℕ). Allows k (alone y) text) (sym (fetched_is k asked bytes x held f)) (part_allows way file bytes text t)

      at : (b : Answer) → AnswersAsked c k b → IsPut b c.out c.err s → ((s ≡ 0) × Gained c.out (pieces text) text) ⊎ (s ≡ 6)
      at _ (of_input (alone x) f (allowed {text = other} u)) p = given_text s text other (one_allowed laws way file x other text u (part x f.0)) open_out p
      at _ (of_input (and_run x y) f (allowed u)) p = absurd u
      at _ (of_input (run_alone y) f (allowed u)) p = absurd u
      at _ (of_input _ f (refused {bytes = x} why o)) p = absurd ((is_sound laws k).fetched.never x why ((part x f.0).told, (part x f.0).file) o)
      at _ (of_input (alone x) f (run_refused why o)) p = absurd o
      at _ (of_input (and_run x y) f (run_refused why o)) p = absurd o
      at _ (of_input (run_alone y) f (run_refused why o)) p = absurd o
      at _ (of_file_fault f) p = absurd (sound f)
      at _ (of_run_fault next f) p = absurd f

nothing_out : (laws : Laws) (c : Call) (s : ℕ) → Ended (IsAnswer c) (IsBegun c) c.out c.err s → promised.IsRefusedCall c → Gained c.out 0 []
nothing_out laws c s o (promised.unknown u) = nothing_given laws c s o (unknown_gives laws c u)
nothing_out laws c s o (promised.of_file k bytes why asked held r) = nothing_given laws c s o (refused_gives laws c k asked bytes why held r)
nothing_out laws c s o (promised.of_run k input why asked held r) = nothing_given laws c s o (refused_run_gives laws c k asked input held why r)

pub kept : Laws → (c : Call) (s : ℕ) → Ended (IsAnswer c) (IsBegun c) c.out c.err s → promised.Promises c s
kept laws c s o = record {
  statuses = statuses laws c s o;
  given = given laws c s o;
  refused = told laws c 1 s (lit< tt) (lit< tt) o;
  refused_run = told laws c 2 s (lit< tt) (lit< tt) o;
  usage = told laws c 3 s (lit< tt) (lit< tt) o;
  unread = told laws c 4 s (lit< tt) (lit< tt) o;
  unwritten = unwritten laws c s o;
  wanting = wanting_of laws c s o;
  last_word = last_word laws c s o;
  must_tell_usage = must_tell_usage laws c s o;
  must_refuse = λ k bytes why asked held r. must_refuse laws c k asked bytes why held r s o;
  must_refuse_run = λ k input why asked held r. must_refuse_run laws c k asked input held why r s o;
  must_answer = λ k input asked held unrefused sound open_out. must_answer laws c k asked input held unrefused sound open_out s o;
  must_take = λ k input asked held takes sound open_out. must_take laws c k asked input held takes sound open_out s o;
  must_give = λ way file bytes text asked held t sound open_out. must_give laws c way file bytes asked held s o text t sound open_out;
  must_tell = λ text asked open_out. must_tell laws c text asked s o open_out;
  nothing_out = nothing_out laws c s o;
}

use Rattle.std.proofs.Common.{◌≢◌, ◌≤◌, ℕ, List, [], ◌∷◌, length, refl, sym, subst, inl, inr, arith, lit<, lit≤}
use Rattle.std.proofs.lemmas.List.Elements.{All-nil, All-cons}
use Rattle.std.specs.Prelude.{codes}
use Rattle.sap_outside.specs.Pieces.{pieces}
use Rattle.sap_outside.specs.Stream.{Gained}
use Rattle.sap_pages.specs.Texts.{version_text}
use Rattle.sap_replay.specs.declared.way.Way.TheVariants.{Plain}
use Rattle.sap_tool.specs.Commands.{alone, compile, to_json, run_alone}
use Rattle.sap_answer.specs.Answer.{gives, tells, complete, cut, usage_text, read_fault_text}
use Rattle.sap_tool.specs.Answers.{refused, told_at_once, usage, unread, unread_run, to_input, run_refused, asked_nothing, asked_file, asked_run}
use Rattle.sap_tool.specs.Promises as promised
use Rattle.sap_tool.specs.PromisesExamples.{compile_words, fetches, version_words, json_words, unknown_words, run_bytes, run_json, opens, piece, got, failed, starved, untouched}
use Rattle.sap_tool.proofs.HandCalls.{untold, compile_known, compile_untold, headerless, headless, version_told, version_only, version_known, json_known, json_untold, x_unknown}
use Rattle.sap_tool.proofs.HandRuns.{line_is_read, run_is_json, in_two_pieces}
use Rattle.sap_tool.proofs.promises_by_hand.promises_are_kept_by_hand.Goals as goal

pub returns-clause-given : goal.returns-clause-given
returns-clause-given c =
    untold version_words [] 0 (got version_text 1) untouched 0 (0, lit< tt, refl)
    (λ e. inr (record { text = version_text; asked = version_told; fetched = refl; out = (refl, refl); err = (refl, refl) }))
    (λ e. absurd (omega (arith, e))) (λ e. absurd (omega (arith, e))) (λ e. absurd (omega (arith, e))) (λ e. absurd (omega (arith, e)))
    (λ e. absurd (omega (arith, e))) (λ e. absurd (omega (arith, e)))
    (λ uncut. (λ e. absurd (omega (arith, e)), λ e. absurd (omega (arith, e))))
    (λ u. absurd (version_known u))
    (λ text told open_out. inl (refl, subst (λ (t : List ℕ). Gained (got version_text 1) (pieces t) t) (sym (version_only c.one_page.ensures text told)) (refl, refl)))

pub returns-clause-given_run : goal.returns-clause-given_run
returns-clause-given_run c =
    let read = line_is_read c.named_steps_can_be_written.ensures.process c.printed_runs_are_read.ensures.process in
    let json = run_is_json read c.arrays_by_hand.ensures.text in
    untold json_words (opens (piece ∷ piece ∷ [])) 0 (got run_json 1) untouched 0 (0, lit< tt, refl)
    (λ e. inl (record {
      command = to_json (codes "r");
      input = run_alone run_bytes;
      text = run_json;
      asked = refl;
      fetched = record { joined = lit≤ tt; pieces = run_bytes ∷ [] ∷ []; are = in_two_pieces; whole = refl; asked = refl };
      allowed = json;
      means = c.texts_mean_what_they_say.ensures.as_json run_bytes run_json json;
      out = (refl, refl);
      err = (refl, refl);
    }))
    (λ e. absurd (omega (arith, e))) (λ e. absurd (omega (arith, e))) (λ e. absurd (omega (arith, e))) (λ e. absurd (omega (arith, e)))
    (λ e. absurd (omega (arith, e))) (λ e. absurd (omega (arith, e)))
    (λ uncut. (λ e. absurd (omega (arith, e)), λ e. absurd (omega (arith, e))))
    (λ u. absurd (json_known u))
    (λ text told open_out. absurd (json_untold text told))

x_some : codes "x" ≢ []
x_some e = cc (e)

pub returns-clause-refused : goal.returns-clause-refused
returns-clause-refused c =
    untold compile_words fetches 0 untouched (got (codes "file refused: no theory header\n") 1) 1 (1, lit< tt, refl)
    (λ e. absurd (omega (arith, e)))
    (λ e. record {
      text = codes "file refused: no theory header\n";
      cause = to_input (compile Plain (codes "f")) (alone []) refl (lit≤ tt, refl) (refused (codes "no theory header") headerless);
      out = (refl, refl);
      err = (refl, refl);
    })
    (λ e. absurd (omega (arith, e))) (λ e. absurd (omega (arith, e))) (λ e. absurd (omega (arith, e))) (λ e. absurd (omega (arith, e))) (λ e. absurd (omega (arith, e)))
    (λ uncut. (λ e. absurd (omega (arith, e)), λ e. absurd (omega (arith, e))))
    (λ u. absurd (compile_known u))
    (λ text told open_out. absurd (compile_untold text told))

pub returns-clause-refused_run : goal.returns-clause-refused_run
returns-clause-refused_run c =
    untold json_words (opens (piece ∷ piece ∷ [])) 0 untouched (got (codes "run refused: wrong head\n") 1) 2 (2, lit< tt, refl)
    (λ e. absurd (omega (arith, e))) (λ e. absurd (omega (arith, e)))
    (λ e. record {
      text = codes "run refused: wrong head\n";
      cause = to_input (to_json (codes "r")) (run_alone (codes "x")) refl
          (record {
            joined = lit≤ tt;
            pieces = codes "x" ∷ [] ∷ [];
            are = record {
              before = codes "x" ∷ [];
              last = [];
              parted = refl;
              small = let P : List ℕ → Type 0 = λ piece. length piece ≤ 4096 in All-cons P (codes "x") ([] ∷ []) (lit≤ tt) (All-cons P [] [] (lit≤ tt) (All-nil P));
              some = let P : List ℕ → Type 0 = λ piece. piece ≢ [] in All-cons P (codes "x") [] x_some (All-nil P);
              within = lit≤ tt;
              ends = inl refl;
            };
            whole = refl;
            asked = refl;
          })
          (run_refused (codes "wrong head") headless);
      out = (refl, refl);
      err = (refl, refl);
    })
    (λ e. absurd (omega (arith, e))) (λ e. absurd (omega (arith, e))) (λ e. absurd (omega (arith, e))) (λ e. absurd (omega (arith, e)))
    (λ uncut. (λ e. absurd (omega (arith, e)), λ e. absurd (omega (arith, e))))
    (λ u. absurd (json_known u))
    (λ text told open_out. absurd (json_untold text told))

pub returns-clause-usage : goal.returns-clause-usage
returns-clause-usage c =
    untold unknown_words [] 0 untouched (got usage_text 1) 3 (3, lit< tt, refl)
    (λ e. absurd (omega (arith, e))) (λ e. absurd (omega (arith, e))) (λ e. absurd (omega (arith, e)))
    (λ e. record { text = usage_text; cause = usage x_unknown refl; out = (refl, refl); err = (refl, refl) })
    (λ e. absurd (omega (arith, e))) (λ e. absurd (omega (arith, e))) (λ e. absurd (omega (arith, e)))
    (λ uncut. (λ e. absurd (omega (arith, e)), λ e. absurd (omega (arith, e))))
    (λ u. (inl refl, (refl, refl)))
    (λ text told open_out. absurd (x_unknown.no_text text told))

pub returns-clause-unread : goal.returns-clause-unread
returns-clause-unread c =
    untold json_words (opens []) 1 untouched (got read_fault_text 1) 4 (4, lit< tt, refl)
    (λ e. absurd (omega (arith, e))) (λ e. absurd (omega (arith, e))) (λ e. absurd (omega (arith, e))) (λ e. absurd (omega (arith, e)))
    (λ e. record {
      text = read_fault_text;
      cause = unread_run (to_json (codes "r")) refl tt (lit≤ tt) (record { nexts = 0; few = lit≤ tt; asked = refl });
      out = (refl, refl);
      err = (refl, refl);
    })
    (λ e. absurd (omega (arith, e))) (λ e. absurd (omega (arith, e)))
    (λ uncut. (λ e. absurd (omega (arith, e)), λ e. absurd (omega (arith, e))))
    (λ u. absurd (json_known u))
    (λ text told open_out. absurd (json_untold text told))

pub returns-clause-unread_file : goal.returns-clause-unread_file
returns-clause-unread_file c =
    untold compile_words fetches 1 untouched (got read_fault_text 1) 4 (4, lit< tt, refl)
    (λ e. absurd (omega (arith, e))) (λ e. absurd (omega (arith, e))) (λ e. absurd (omega (arith, e))) (λ e. absurd (omega (arith, e)))
    (λ e. record {
      text = read_fault_text;
      cause = unread (compile Plain (codes "f")) refl (lit≤ tt) refl;
      out = (refl, refl);
      err = (refl, refl);
    })
    (λ e. absurd (omega (arith, e))) (λ e. absurd (omega (arith, e)))
    (λ uncut. (λ e. absurd (omega (arith, e)), λ e. absurd (omega (arith, e))))
    (λ u. absurd (compile_known u))
    (λ text told open_out. absurd (compile_untold text told))

pub returns-clause-unwritten : goal.returns-clause-unwritten
returns-clause-unwritten c =
    untold version_words [] 0 (failed 1 (codes "sapic") 1) (got (codes "write fault\n") 1) 5 (5, lit< tt, refl)
    (λ e. absurd (omega (arith, e))) (λ e. absurd (omega (arith, e))) (λ e. absurd (omega (arith, e))) (λ e. absurd (omega (arith, e))) (λ e. absurd (omega (arith, e)))
    (λ e. record {
      answer = gives version_text;
      cause = told_at_once version_text version_told refl;
      broken = lit≤ tt;
      taken = 5;
      last = codes "write fault\n";
      part = (record { whole = 0; next = lit< tt; behind = lit≤ tt; within = lit≤ tt; gained = (refl, refl) }, (refl, refl));
      word = complete;
    })
    (λ e. absurd (omega (arith, e)))
    (λ uncut. (λ e. (refl, refl), λ e. absurd (omega (arith, e))))
    (λ u. absurd (version_known u))
    (λ text told open_out. absurd (open_out (lit≤ tt)))

pub returns-clause-unwritten_err : goal.returns-clause-unwritten_err
returns-clause-unwritten_err c =
    untold unknown_words [] 0 untouched (failed 2 (codes "usagewrite") 2) 5 (5, lit< tt, refl)
    (λ e. absurd (omega (arith, e))) (λ e. absurd (omega (arith, e))) (λ e. absurd (omega (arith, e))) (λ e. absurd (omega (arith, e))) (λ e. absurd (omega (arith, e)))
    (λ e. record {
      answer = tells 3 usage_text;
      cause = usage x_unknown refl;
      broken = lit≤ tt;
      taken = 5;
      last = codes "write";
      part = ((refl, refl), (refl, refl));
      word = cut 5 (inl (lit≤ tt));
    })
    (λ e. absurd (omega (arith, e)))
    (λ uncut. (λ e. absurd (uncut (inl (lit≤ tt))), λ e. absurd (omega (arith, e))))
    (λ u. (inr (inl (refl, lit≤ tt)), (refl, refl)))
    (λ text told open_out. absurd (x_unknown.no_text text told))

pub returns-clause-wanting : goal.returns-clause-wanting
returns-clause-wanting c =
    untold version_words [] 0 untouched (got (codes "out of memory\n") 1) 6 (6, lit< tt, refl)
    (λ e. absurd (omega (arith, e))) (λ e. absurd (omega (arith, e))) (λ e. absurd (omega (arith, e))) (λ e. absurd (omega (arith, e))) (λ e. absurd (omega (arith, e)))
    (λ e. absurd (omega (arith, e)))
    (λ e. promised.before_all (codes "out of memory\n") (asked_nothing refl) (refl, refl) (refl, refl) complete)
    (λ uncut. (λ e. absurd (omega (arith, e)), λ e. (refl, refl)))
    (λ u. absurd (version_known u))
    (λ text told open_out. inr refl)

pub returns-clause-wanting_file : goal.returns-clause-wanting_file
returns-clause-wanting_file c =
    untold compile_words fetches 0 untouched (got (codes "out of memory\n") 1) 6 (6, lit< tt, refl)
    (λ e. absurd (omega (arith, e))) (λ e. absurd (omega (arith, e))) (λ e. absurd (omega (arith, e))) (λ e. absurd (omega (arith, e))) (λ e. absurd (omega (arith, e)))
    (λ e. absurd (omega (arith, e)))
    (λ e. promised.before_all (codes "out of memory\n") (asked_file (compile Plain (codes "f")) refl refl) (refl, refl) (refl, refl) complete)
    (λ uncut. (λ e. absurd (omega (arith, e)), λ e. (refl, refl)))
    (λ u. absurd (compile_known u))
    (λ text told open_out. absurd (compile_untold text told))

pub returns-clause-wanting_run : goal.returns-clause-wanting_run
returns-clause-wanting_run c =
    untold json_words (opens (piece ∷ [])) 0 untouched (got (codes "out of memory\n") 1) 6 (6, lit< tt, refl)
    (λ e. absurd (omega (arith, e))) (λ e. absurd (omega (arith, e))) (λ e. absurd (omega (arith, e))) (λ e. absurd (omega (arith, e))) (λ e. absurd (omega (arith, e)))
    (λ e. absurd (omega (arith, e)))
    (λ e. promised.before_all (codes "out of memory\n") (asked_run (to_json (codes "r")) refl tt (record { nexts = 1; few = lit≤ tt; asked = refl })) (refl, refl) (refl, refl) complete)
    (λ uncut. (λ e. absurd (omega (arith, e)), λ e. (refl, refl)))
    (λ u. absurd (json_known u))
    (λ text told open_out. absurd (json_untold text told))

pub returns-clause-wanting_out : goal.returns-clause-wanting_out
returns-clause-wanting_out c =
    untold version_words [] 0 (starved 1 (codes "sapic") 1) (got (codes "out of memory\n") 1) 6 (6, lit< tt, refl)
    (λ e. absurd (omega (arith, e))) (λ e. absurd (omega (arith, e))) (λ e. absurd (omega (arith, e))) (λ e. absurd (omega (arith, e))) (λ e. absurd (omega (arith, e)))
    (λ e. absurd (omega (arith, e)))
    (λ e. promised.while_put (gives version_text) 5 (codes "out of memory\n") (told_at_once version_text version_told refl) (lit≤ tt)
    (record { whole = 0; next = lit< tt; behind = lit≤ tt; within = lit≤ tt; gained = (refl, refl) }, (refl, refl)) complete)
    (λ uncut. (λ e. absurd (omega (arith, e)), λ e. (refl, refl)))
    (λ u. absurd (version_known u))
    (λ text told open_out. inr refl)

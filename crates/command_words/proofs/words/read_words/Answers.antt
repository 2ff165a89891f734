use Rattle.std.proofs.Common.{◌≡◌, ◌∙◌, ap, subst, true, map, inl, inr, string_bytes}
use Rattle.clap.specs.Faults.{fault_of, is_simple_and_free}
use Rattle.clap.specs.Kinds.{HasKind, IsAmong}
use Rattle.clap.specs.Values.{kind_of}
use Rattle.clap.specs.Simple.{App, app_of, is_simple}
use Rattle.command_words.specs.AxinetCommand.{IsAxinet}
use Rattle.command_words.specs.Chosen.{choice_in}
use Rattle.command_words.proofs.words.read_words.Goals as goal

-- no argument has a rule on another, and none repeats
simple-and-free : (app : App) → IsAxinet app → is_simple_and_free app ≡ true
simple-and-free app is = ap is_simple_and_free is.is

simple : (app : App) → IsAxinet app → is_simple app ≡ true
simple app is = ap is_simple is.is

pub returns-in-Ok-try_get_matches_from_mut-clause-chosen : goal.returns-in-Ok-try_get_matches_from_mut-clause-chosen
returns-in-Ok-try_get_matches_from_mut-clause-chosen c =
    let is : IsAxinet (app_of c.in-Ok.command) = c.in-Ok.ensures in
    record {
      app = app_of c.in-Ok.command;
      is = is;
      takes = c.in-Ok-try_get_matches_from_mut.ensures.kinds (simple-and-free (app_of c.in-Ok.command) is);
      choice_is = c.choice_in.ensures ∙ ap choice_in (c.in-Ok-try_get_matches_from_mut.ensures.ok.2 (simple (app_of c.in-Ok.command) is)).0;
    }

pub returns-clause-refused : goal.returns-clause-refused
returns-clause-refused c usage =
    let is : IsAxinet (app_of c.in-Ok.command) = c.in-Ok.ensures in
    let kinds : HasKind (fault_of (app_of c.in-Ok.command) (map string_bytes c.args.words.now)) c.in-Err.error = c.in-Err.ensures.kinds (simple-and-free (app_of c.in-Ok.command) is) in
    record {
      app = app_of c.in-Ok.command;
      is = is;
      refuses = λ none. elim kinds [
        | inl memory ↦ absurd (c.words_fault.ensures usage memory)
        | inr among ↦ subst (IsAmong (kind_of c.in-Err.error)) none among
      ];
    }

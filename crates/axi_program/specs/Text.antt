-- What the program writes: the line of a refusal, the line of a verdict on a trace, and the lines of a run.
use Rattle.std.specs.Prelude.{ℕ, ◌==◌, ◌-◌, slice_get, Bool, true, false, List, [], ◌++◌, if◌then◌else◌, codes}
use Rattle.std.specs.List.{flat_map}
use Rattle.std.specs.Option.{option_map_or}
use Rattle.std.specs.Fmt.{decimal}
use Rattle.net_build.specs.NetRun.{NetRun}
use Rattle.net_build.specs.Noted.{answer_of_number}
use Rattle.plan_traffic.specs.Traffic.{TrafficItem}
use Rattle.topology_text.specs.Document.{node_at}
use Rattle.refusals.specs.Cause.{cause_code, cause_name, cause_of_code, names_place}
use Rattle.refusals.specs.declared.cause.Cause.TheVariants.{IllegalBurst}
use Rattle.refusals.specs.declared.refusal.Refusal.{Refusal}
use Rattle.trace_text.specs.AnswerLine.{answer_line}
use Rattle.trace_judge.specs.declared.verdict.TraceFault.{TraceFault}

-- ---- a refusal

-- the name of the cause with this code; a code that no cause has has none
abbrev pub name_of_code : ℕ → List ℕ
name_of_code code = option_map_or cause_name (cause_of_code code) []

-- that cause names a place
abbrev pub code_names_place : ℕ → Bool
code_names_place code = option_map_or names_place (cause_of_code code) false

-- the place of a refusal, where its cause names one
abbrev pub place_text : Refusal → List ℕ
place_text refusal = if code_names_place refusal.code then codes " " ++ decimal refusal.place else []

-- the broken rule, where the cause is one
abbrev pub rule_text : Refusal → List ℕ
rule_text refusal = if refusal.code == cause_code IllegalBurst then codes " " ++ decimal refusal.rule else []

-- `refused <code> <name>`, the place where one is named, and the rule that is broken
unfoldable pub refusal_line : Refusal → List ℕ
refusal_line refusal =
    codes "refused " ++ decimal refusal.code ++ codes " " ++ name_of_code refusal.code ++ place_text refusal ++ rule_text refusal ++ codes "\n"

-- ---- a trace that is judged

-- `legal <lines>`
unfoldable pub legal_line : ℕ → List ℕ
legal_line lines = codes "legal " ++ decimal lines ++ codes "\n"

-- the name of a channel, by its number from 1
abbrev pub channel_name : ℕ → List ℕ
channel_name channel =
    if channel == 1 then codes "aw"
    else if channel == 2 then codes "w"
    else if channel == 3 then codes "b"
    else if channel == 4 then codes "ar"
    else codes "r"

-- `broken <line> <round> <link> <channel> <rule>`
unfoldable pub broken_line : TraceFault → List ℕ
broken_line fault =
    codes "broken " ++ decimal fault.line ++ codes " " ++ decimal fault.round ++ codes " " ++ decimal fault.link ++ codes " " ++ channel_name fault.channel ++ codes " "
    ++ decimal fault.rule ++ codes "\n"

-- ---- a run

-- a text that stands only where it is asked for
abbrev pub where_asked : Bool → List ℕ → List ℕ
where_asked false text = []
where_asked true text = text

-- the line that parts a trace from the answers
abbrev pub separator_line : List ℕ
separator_line = codes "%%\n"

-- `rounds <rounds>`
unfoldable pub rounds_line : ℕ → List ℕ
rounds_line rounds = codes "rounds " ++ decimal rounds ++ codes "\n"

module _ (run : NetRun) where
  -- the line of a transaction of a network that is run, where it is answered after these rounds
  abbrev pub item_line : TrafficItem → List ℕ
  item_line item = option_map_or (answer_line (node_at run.nodes item.manager).name item.txn) (answer_of_number run item.txn.number) []

  -- the lines of transactions, in order
  abbrev pub answer_lines : List TrafficItem → List ℕ
  answer_lines items = flat_map item_line items

  -- the line of the transaction of this number, counted from 1
  abbrev pub line_of_number : ℕ → List ℕ
  line_of_number number = option_map_or item_line (slice_get run.items (number - 1)) []

  -- the text of a run: the answers to all transactions, in order of number, and how many rounds it took
  unfoldable pub run_text : List ℕ
  run_text = answer_lines run.items ++ rounds_line run.rounds

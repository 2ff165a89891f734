use Rattle.std.proofs.Common.{[], ◌∷◌, ◌++◌, ap, ◌∙◌}
use Rattle.std.proofs.lemmas.List.{append-nil}
use Rattle.std.proofs.lemmas.List.Concat.{flat_map-append}
use Rattle.axi_trail.specs.Words.{marks, marks_of}
use Rattle.axi_trail.proofs.FilterFacts.{marks-selected, length-burst_marks}
use Rattle.axi_trail.proofs.MarkFacts.{burst_ends}
use Rattle.plain_lists.proofs.PrefixLemmas.{prefix_flat_map}
use Rattle.axi_trail.proofs.word_laws.laws_of_marks.Goals as goal

pub returns : goal.returns
returns c = record {
  burst = λ asked a. flat_map-append marks_of asked (a ∷ []) ∙ ap (λ t. marks asked ++ t) (append-nil (marks_of a));
  marks = λ asked more p. prefix_flat_map marks_of p;
  selection = marks-selected;
  ends = λ a. (length-burst_marks a.number a.len, burst_ends a.number a.len);
}

use Rattle.plain_lists.proofs.KeyLemmas.{of_key-of_key, of_key-push, of_key-push_other, of_key-without, of_key-without_other, picked-append}
use Rattle.plain_lists.proofs.PrefixLemmas.{prefix_of_key}
use Rattle.plain_lists.proofs.laws.laws_of_keys.Goals as goal

pub returns : goal.returns
returns c = record {
  more = λ key_of key xs x. (of_key-push key_of key xs x, of_key-push_other key_of key xs x);
  beginning = λ key_of key xs ys p. prefix_of_key key_of key p;
  either = λ id_of number_of id number xs. of_key-of_key id_of number_of id number xs;
  leaves = of_key-without;
  others = of_key-without_other;
  picks = picked-append;
}

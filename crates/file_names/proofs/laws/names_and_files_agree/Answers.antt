use Rattle.std.proofs.Common.{ap}
use Rattle.file_names.specs.FileName.{kind_of, group_of_file}
use Rattle.file_names.proofs.GroupIdLemmas.{group_with_id_exact}
use Rattle.file_names.proofs.NameTexts as names
use Rattle.file_names.proofs.laws.names_and_files_agree.Goals as goal

pub returns : goal.returns
returns c = record {
  read_back = names.read_back;
  one_reading = names.one_reading;
  distinct = names.name_of_injective;
  kinds_apart = λ table f g hf hg other same. other (ap kind_of (names.name_of_injective table f g hf hg same));
  groups_apart = λ table f g hf hg other same. other (ap group_of_file (names.name_of_injective table f g hf hg same));
  ids_apart = names.ids_apart;
  ids_found = group_with_id_exact;
}

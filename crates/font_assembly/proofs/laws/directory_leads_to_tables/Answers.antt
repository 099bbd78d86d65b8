use Rattle.font_assembly.proofs.DirectoryLaws.{length_file, checksum_file, leads}
use Rattle.font_assembly.proofs.laws.directory_leads_to_tables.Goals as goal

pub returns-clause-len : goal.returns-clause-len
returns-clause-len c = length_file

pub returns-clause-sum : goal.returns-clause-sum
returns-clause-sum c = checksum_file

pub returns-clause-tables : goal.returns-clause-tables
returns-clause-tables c = leads

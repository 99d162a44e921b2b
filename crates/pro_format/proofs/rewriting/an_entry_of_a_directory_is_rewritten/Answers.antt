use Rattle.std.specs.Prelude.{take, slice_set}
use Rattle.pro_dir.specs.Entry.{name_of}
use Rattle.pro_format.specs.Rewritten.{access_at, renamed, with_access, with_name}
use Rattle.pro_format.proofs.AccessBits.{is_access}
use Rattle.pro_format.proofs.EntryNumbers.{entry_rest}
use Rattle.pro_format.proofs.Names.{is_renaming}
use Rattle.pro_format.proofs.Rewrites.{entry_rewritten}
use Rattle.pro_format.proofs.rewriting.an_entry_of_a_directory_is_rewritten.Goals as goal

pub returns-clause-access : goal.returns-clause-access
returns-clause-access c = λ reserved store directory file access described inside is_file whole.
    entry_rewritten (λ at unit. with_access at access unit) (λ path bytes. path) (λ bytes. slice_set bytes access_at access) (is_access access)
    reserved store directory described file inside is_file whole

pub returns-clause-name : goal.returns-clause-name
returns-clause-name c = λ reserved store directory file len name described inside is_file whole short long.
    entry_rewritten (λ at unit. with_name at len name unit) (λ path bytes. renamed path (name_of bytes) (take len name)) (λ bytes. with_name 0 len name bytes)
    (is_renaming len name short long) reserved store directory described file inside is_file whole

pub returns-clause-rest : goal.returns-clause-rest
returns-clause-rest c = λ reserved store directory file unit described inside. entry_rest reserved store directory described file unit inside

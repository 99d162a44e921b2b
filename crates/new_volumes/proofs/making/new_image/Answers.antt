use Rattle.new_volumes.proofs.making.new_image.Goals as goal

pub returns-in-Dos-clause-refused : goal.returns-in-Dos-clause-refused
returns-in-Dos-clause-refused c = rw c.in-Dos.is c.new_disk.ensures.refused

pub returns-in-Prodos-clause-refused : goal.returns-in-Prodos-clause-refused
returns-in-Prodos-clause-refused c = rw c.in-Prodos.is c.new_blocks.ensures.refused

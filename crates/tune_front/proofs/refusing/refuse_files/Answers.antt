use Rattle.tune_front.proofs.refusing.refuse_files.Goals as goal

pub returns-in-BadFile : goal.returns-in-BadFile
returns-in-BadFile g c = rw c.in-BadFile.is (c.say_made.ensures _ (rw c.as_str.ensures at c.bad_file_line-text.ensures))

pub returns-in-ReadFault : goal.returns-in-ReadFault
returns-in-ReadFault g c = rw c.in-ReadFault.is (c.say_made-in-ReadFault.ensures _ (rw c.as_str-in-ReadFault.ensures at c.read_fault_line-line.ensures))

use Rattle.session_core.proofs.Courses.{course_is_by_the_table}
use Rattle.session_core.proofs.laws.a_session_goes_by_the_table_of_its_calls.Goals as goal

pub returns : goal.returns
returns c = course_is_by_the_table

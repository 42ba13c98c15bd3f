-- The mesh of an exam as it is lent.
use Rattle.exam.specs.Exam.{ExamMesh, exam_mesh}
use Rattle.exam_requests.specs.declared.LentExamMesh.{LentExamMesh}

abbrev pub exam_mesh_lent : LentExamMesh → ExamMesh
exam_mesh_lent l = exam_mesh l.nodes l.xs.now l.ys.now l.quad_count l.quads.now l.next.now l.prev.now l.origins.now

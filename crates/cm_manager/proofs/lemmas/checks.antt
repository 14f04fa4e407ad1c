pub mod DoctorLines
